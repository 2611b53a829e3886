-- What the flags of a command line change.
use Rattle.std.specs.Prelude.{ℕ, ◌+◌, Bool, true, false, ◌&&◌, ◌||◌, ◌==◌, nat_lt, min, if◌then◌else◌}
use Rattle.rc_file.specs.{Settings.Content, declared.flags.Flags.Flags}

-- two flags ask for opposite things
abbrev pub is_contradiction : Flags → Bool
is_contradiction flags = flags.all && flags.new_only || flags.delete && flags.dont_delete
    || flags.quiet && nat_lt 0 flags.verbose

-- what a pair of flags makes of a value: the first sets it to true, the second to false
abbrev pub switched : Bool → Bool → Bool → Bool
switched on off value = if on then true else if off then false else value

-- `--quiet` gives 0; each `--verbose` adds one, up to 2
abbrev pub louder : Bool → ℕ → ℕ → ℕ
louder quiet more verbose = if quiet then 0 else if more == 0 then verbose else min (verbose + more) 2

abbrev pub overridden : Content → Flags → Content
overridden content flags = record content {
  read_all = switched flags.all flags.new_only content.read_all;
  delete = switched flags.delete flags.dont_delete content.delete;
  verbose = louder flags.quiet flags.verbose content.verbose;
}
