-- A link with a fuse: the link, how many calls still pass, and what a call does.
use Rattle.std.specs.Prelude.{◌≡◌, ℕ, ◌-◌, ◌<◌, true, Result}
use Rattle.mail_terms.specs.FailureCount.{greatest_count, is_refused}
use Rattle.pop3_wire.specs.Link.{Link, with_failures, CountsFailure}

-- the link, how many calls still pass, and how many were refused, by the fuse or by the link
pub record Fuse (W : Type 0) : Type 0 where
  pub wire : W
  pub left : ℕ
  pub failures : ℕ

-- what is known of the link, with the fuse's count of refusals
abbrev pub fused_link : {W : Type 0} → (W → Link) → Fuse W → Link
fused_link history fuse = with_failures fuse.failures (history fuse.wire)

abbrev pub fused_is_sound : {W : Type 0} → (W → Type 0) → Fuse W → Type 0
fused_is_sound sound fuse = sound fuse.wire × (fuse.failures < greatest_count)

abbrev pub fused_leads_to : {W : Type 0} → (W → W → Type 0) → Fuse W → Fuse W → Type 0
fused_leads_to leads_to old new = leads_to old.wire new.wire

-- one call below the greatest count: it uses up a pass; if none is left, it is refused, and the link isn't
-- asked; if one is left, it is refused only if the link refused it
pub record BurnsForLink {W T E : Type 0} (history : W → Link) (old : Fuse W) (result : Result T E)
    (new : Fuse W) : Type 0 where
  pub used : new.left ≡ old.left - 1
  pub blown : old.left ≡ 0 → (is_refused result ≡ true) × (new.wire ≡ old.wire)
  pub passed : 0 < old.left → CountsFailure (history old.wire) result (history new.wire)
