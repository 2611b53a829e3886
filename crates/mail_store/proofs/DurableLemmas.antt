-- What a crash leaves of a file that is durable.
use Rattle.std.proofs.{
  Common.{◌≡◌, ◌∙◌, ⊎_elim, ℕ, List, [], ◌∷◌, ◌++◌, length, Option, Some, None, refl, inl, inr, arith, length-append, append-nil, ◌≤◌},
  Common.option_map,
  Math.Seq.take-length,
}
use Rattle.mail_store.specs.Durable.{Blob, CrashesHappen, DurableIsLeft, IsDurable, IsFlushed, IsLeft, IsLeftOf, MayLeave, all_durable}
use Rattle.mail_store.specs.Durable.{content_in, secured, seen_on}

pub no_rest : (xs rest : List ℕ) → length (xs ++ rest) ≤ length xs → xs ++ rest ≡ xs
no_rest xs [] _ = append-nil xs
no_rest xs (x ∷ rest) le = absurd (omega (arith, le, length-append xs (x ∷ rest)))

-- of a durable file its bytes are left
pub left_of : (bytes left : List ℕ) → IsLeft (secured bytes) left → left ≡ bytes
left_of _ _ (inl e) = e
left_of _ _ (inr (inl e)) = e
left_of bytes left (inr (inr t)) =
    let e : left ≡ bytes ++ t.behind = cc (take-length bytes) in
    e ∙ no_rest _ _ (rw e at (⊎_elim (λ le. le) (λ same. omega (arith, same)) t.most))

pub left_flushed : (o : Option Blob) (left : Option (List ℕ)) → IsFlushed o → IsLeftOf o left → left ≡ option_map content_in o
left_flushed None None _ h = refl
left_flushed None (Some _) _ h = absurd h
left_flushed (Some b) None _ h = absurd h
left_flushed (Some b) (Some left) is h = cc (left_of b.content left (rw is at h))

pub durable_is_left : DurableIsLeft
unfolding MayLeave
durable_is_left _ _ is (inl now) = left_flushed _ _ is.flushed now
durable_is_left _ _ is (inr was) = absurd (rw is.named at was)

-- ---- a file in memory

pub seen_all : (content : Option (List ℕ)) → seen_on (all_durable content) ≡ content
seen_all None = refl
seen_all (Some _) = refl

pub flushed_all : (content : Option (List ℕ)) → IsFlushed (option_map secured content)
flushed_all None = tt
flushed_all (Some _) = refl

pub all_is_durable : (content : Option (List ℕ)) → IsDurable (all_durable content)
all_is_durable _ = record { named = refl; flushed = flushed_all _ }

pub crashes_happen : CrashesHappen
crashes_happen old left may = (
  all_durable _,
  record { left = rw (seen_all left) may; durable = all_is_durable _ },
  seen_all _,
)
