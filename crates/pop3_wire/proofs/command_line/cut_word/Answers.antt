use Rattle.std.{
  proofs.Common.{◌≡◌, ◌+◌, ◌<◌, length, arith, refl, ℕ, List, [], ◌∷◌, false},
  proofs.lemmas.List.{take_rest, drop_all, Splits.{slice_split_none, slice_split_first}, Sums.fails_before_first, Elements.All-from_get_or},
  specs.List.{position_or_len, slice_split},
}
use Rattle.pop3_wire.specs.Fields.{is_space}
use Rattle.pop3_wire.proofs.command_line.cut_word.Goals as goal

-- a line without a space is one word
one_word : (bytes : List ℕ) → position_or_len is_space bytes ≡ length bytes → slice_split is_space bytes ≡ bytes ∷ []
one_word bytes h = slice_split_none is_space bytes (All-from_get_or (λ x. is_space x ≡ false) bytes 0
    (λ k lt. fails_before_first is_space bytes k 0 (omega arith)))

pub returns-then-length-bytes-clause-rest : goal.returns-then-length-bytes-clause-rest
returns-then-length-bytes-clause-rest c =
    let h : position_or_len is_space c.args.bytes.now ≡ length c.args.bytes.now = cc in
    (one_word c.args.bytes.now h, drop_all (position_or_len is_space c.args.bytes.now + 1) c.args.bytes.now (omega arith))

pub returns-clause-rest : goal.returns-clause-rest
returns-clause-rest c =
    let lt : position_or_len is_space c.args.bytes.now < length c.args.bytes.now = omega arith in
    rw (take_rest c.args.bytes.now (c.field_length-length.result + 1), c.field_length-length.ensures.value)
    (slice_split_first is_space c.args.bytes.now 0 lt, refl)
