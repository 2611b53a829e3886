use Rattle.std.proofs.Common.{◌≡◌, ◌∙◌, ◌-◌, ℕ, List, ◌++◌, sym, ap, take, drop, append_assoc, length, take-append-drop}
use Rattle.std.proofs.lemmas.List.{take_rest}
use Rattle.folder_store.specs.FileFolder.{MadeFile}
use Rattle.folder_store.proofs.new_file.write_all.Goals as goal
use Rattle.folder_store.proofs.new_file.write_all.Goals.{in-Some+else-is_empty, in-None}

moves_front : (all front rest : List ℕ) (n : ℕ) → all ≡ front ++ rest
    → all ≡ (front ++ take n rest) ++ take (length rest - n) (drop n rest)
moves_front all front rest n is = is ∙ ap (λ (l : List ℕ). front ++ l) (sym (take-append-drop n rest))
    ∙ sym (append_assoc front (take n rest) (drop n rest))
    ∙ ap (λ (l : List ℕ). (front ++ take n rest) ++ l) (sym (take_rest rest n))

pub loop-preserved : goal.loop-preserved
loop-preserved g c =
    let (front, split, wrote) = c.loop.invariant in
    let rest = c.loop.rest.now in
    elim c.match-wrote.branch [
      | in-Some+else-is_empty w ↦ (
        front ++ take w.in-Some.count rest,
        rw w.rest-is (moves_front _ front rest w.in-Some.count split),
        λ s. let r = rw w.in-Some.is at (c.in_ok-wrote.ensures.writes s) in
            let before = wrote r.0 in (
              before.0,
              ap (λ (m : MadeFile). m.content) r.1 ∙ ap (λ (xs : List ℕ). xs ++ take w.in-Some.count rest) before.1
                  ∙ append_assoc (g.M.MadeHandle.made c.args.file.now).content front (take w.in-Some.count rest),
            ),
      )
      | in-None w ↦ (
        front,
        rw w.rest-is split,
        λ s. let r = rw w.in-None.is at (c.in_ok-wrote.ensures.writes s) in
            let before = wrote r.0 in (before.0, ap (λ (m : MadeFile). m.content) r.1 ∙ before.1),
      )
    ]
