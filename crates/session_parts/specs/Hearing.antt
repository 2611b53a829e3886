-- What a listener is told of a session's plan.
use Rattle.std.specs.Prelude.{◌≡◌, ◌⊎◌, ℕ, Bool, List, [], ◌∷◌, ◌++◌, length, Result, Ok}
use Rattle.mail_terms.specs.Listing.{Item}
use Rattle.mail_store.specs.declared.{
  file.flat_file.FlatFile.Ghosts as FileGhosts,
  maildir.disk.MaildirDisk.Ghosts as DiskGhosts,
}
use Rattle.mail_store.specs.Devices.{stored_in}
use Rattle.pop3_wire.specs.{declared.wire.Wire.Ghosts as WireGhosts, Link.Link, Place.{Place, at}}
use Rattle.rc_file.specs.declared.settings.Settings.{Settings}
use Rattle.fetch_record.specs.Record.{Row, RecordState}
use Rattle.fetch_rules.specs.{Plan.planned, declared.plans.Step.Step}
use Rattle.session_parts.specs.{
  Account.{Holding, digits_of},
  Readiness.merged_in,
  Record.Keeps,
  Refusal.TookWithTail,
  Report.skips_planned,
  Session.Enters_with,
  Target.{AfterTakingIn, Kind, MayBeOdd, is_sound, kind_of, odd_in, stores_of, target_of},
  declared.{work.Store.Store, fault.Cut.Cut, report.{Report.Report, Skips.Skips}, terms.Terms.Terms, work.Work.Work},
}
use Rattle.pop3_client.specs.{Client.place_of, declared.client.Client.Client}

-- what a report says of messages that were passed over
abbrev pub passed_over : Report → Skips
passed_over report = record { all = report.skipped; left_out = report.left_out }

-- some ids, in an mboxrd file none, are odd: by them it is what is planned for each message of a listing, by rows of
-- the record, of which this holds; so many are listed, and these are passed over
pub record IsPlanned (kind : Kind) (settings : Settings) (now total : ℕ) (skipped : Skips)
    (Known : List Item → List Row → List Step → Type 0) (plan : List Step) : Type 0 where
  pub items : List Item
  pub is_odd : List ℕ → Bool
  pub may_be : MayBeOdd kind is_odd
  pub rows : List Row
  pub known : Known items rows plan
  pub total_is : total ≡ length items
  pub skips : skipped ≡ skips_planned settings is_odd rows items now
  pub is : plan ≡ planned settings is_odd rows items now

-- if the store and the record's file are sound, these rows are those of the record that was read, once the listing was
-- merged into it, and the plan goes by what is odd in the store
abbrev pub AreMerged : {D F : Type 0} → DiskGhosts D → FileGhosts F → Settings → List ℕ → ℕ → Store D F → F
    → Store D F → F → List Item → List Row → List Step → Type 0
AreMerged disk files settings account now store file store' file' items rows plan =
    is_sound disk files store' → files.sound file' → AfterTakingIn (stores_of disk files store) (λ left.
    (was : RecordState) × Keeps (stored_in files file).content was
    × (rows ≡ merged_in (target_of store account) left was items now)
    × (plan ≡ planned settings (odd_in (target_of store account) left) rows items now))

-- it is what is planned for a listing of which this holds, of which so many messages are listed and these passed over,
-- by what is worked on
abbrev pub IsPlanFor : {D F H Z : Type 0} → DiskGhosts D → FileGhosts F → Terms → Work D F H Z → ℕ → Skips
    → Work D F H Z → (List Item → Type 0) → List Step → Type 0
IsPlanFor disk files terms old total skipped new IsListed plan =
    IsPlanned (kind_of old.store) terms.settings.now terms.now total skipped (λ items rows steps.
    IsListed items × AreMerged disk files terms.settings.now terms.account.now terms.now old.store old.ledger.file
    new.store new.ledger.file items rows steps) plan

-- it is the listing that came, and at most so much was taken after it
abbrev pub IsListedBefore : {W : Type 0} → WireGhosts W → Settings → ℕ → Client W → Result (Unit {0}) Cut → Client W
    → List Item → Type 0
IsListedBefore link settings limit client result client' items = link.sound client'.wire.now → (mid : Place)
    × Enters_with settings (place_of link client) (Ok items) mid × TookWithTail limit mid result (place_of link client')

-- it is the listing that the server gave
abbrev pub IsServersListing : Settings → Link → Link → List Item → Type 0
IsServersListing settings link link' items = (mid : Place) × Enters_with settings (at link []) (Ok items) mid
    × ((more : List ℕ) × (link'.got ≡ mid.link.got ++ more))

-- it is the plan of a session of an account over these devices, with this report
abbrev pub IsPlanOf : {W D F : Type 0} → WireGhosts W → DiskGhosts D → FileGhosts F → ℕ → Holding D F → W → Holding D F
    → W → Report → List Step → Type 0
IsPlanOf link disk files now old wire new wire' report plan =
    IsPlanned (kind_of old.store) old.settings now report.total (passed_over report) (λ items rows steps.
    (link.sound wire' → IsServersListing old.settings (link.history wire) (link.history wire') items)
    × AreMerged disk files old.settings (digits_of old.settings) now old.store old.file new.store new.file items rows
    steps) plan

-- a listener was told of no plan, or of one of which this holds
abbrev pub HearsOne : {L : Type 0} → (L → List (List Step) → L → Type 0) → (List Step → Type 0) → L
    → L → Type 0
HearsOne hears Is old new = hears old [] new
    ⊎ ((plan : List Step) × Is plan × hears old (plan ∷ []) new)
