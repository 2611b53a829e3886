-- What a device answers where the system refused a call, and paths.
use Rattle.std.proofs.Common.{◌≡◌, ℕ, refl, List, [], ◌++◌, ap, ◌∙◌, append-nil, Result, Ok, Err, sym, true≢false}
use Rattle.std.specs.{IoError.{error_kind}, declared.io.{Error.{Error}, ErrorKind.{ErrorKind, TheVariants.{NotFound}}}, Path.{path_join}}
use Rattle.std.specs.Prelude.{IsErrAnd}
use Rattle.system_calls.specs.declared.refusal.Denial.{Denial}
use Rattle.mail_store.specs.{Fault.is_refusal, declared.fault.StoreFault.{StoreFault, TheVariants.{Missing, Refused}}}
use Rattle.folder_store.specs.{Calls.{IsAbsent, answered, device_fault}, Under.{front_of}}

-- what isn't there, and anything else
pub absent_fault : (k : ErrorKind) → k ≡ NotFound → device_fault k ≡ Missing
absent_fault k is = ap device_fault is

pub other_fault : (k : ErrorKind) → (k ≡ NotFound → ⊥) → device_fault k ≡ Refused
other_fault NotFound apart = absurd (apart refl)
other_fault _ apart = refl

pub missing_absent : (k : ErrorKind) → device_fault k ≡ Missing → k ≡ NotFound
missing_absent NotFound is = refl
missing_absent _ is = absurd (true≢false (ap is_refusal is))

-- an answer that keeps the system's error
answers_refused : {T : Type 0} → (answer : Result T Denial) (e : Error) (fault : StoreFault) → device_fault (error_kind e) ≡ fault
    → IsErrAnd answer (λ d. d.error ≡ e) → Err fault ≡ answered answer
answers_refused (Ok _) e fault is same = elim same [ ]
answers_refused (Err d) e fault is same = ap (λ (f : StoreFault). Err f) (sym is)
    ∙ ap (λ (x : Error). Err (device_fault (error_kind x))) (sym same)

pub answers_absent : {T : Type 0} → (answer : Result T Denial) (e : Error) → error_kind e ≡ NotFound
    → IsErrAnd answer (λ d. d.error ≡ e) → Err Missing ≡ answered answer
answers_absent answer e is same = answers_refused answer e Missing (absent_fault (error_kind e) is) same

pub answers_other : {T : Type 0} → (answer : Result T Denial) (e : Error) → (error_kind e ≡ NotFound → ⊥)
    → IsErrAnd answer (λ d. d.error ≡ e) → Err Refused ≡ answered answer
answers_other answer e apart same = answers_refused answer e Refused (other_fault (error_kind e) apart) same

-- a path with a slash behind it
pub joined_nothing : (base : List ℕ) → path_join base [] ≡ front_of base
unfolding path_join
joined_nothing base = append-nil (front_of base)
