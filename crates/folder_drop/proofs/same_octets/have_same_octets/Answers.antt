use Rattle.folder_drop.proofs.same_octets.have_same_octets.Goals as goal

pub loop-init : goal.loop-init
loop-init g c = λ answer tells. tells

pub returns-in-Some : goal.returns-in-Some
returns-in-Some g c = c.loop.invariant c.in-Some.answer (rw c.in-Some.is at c.in_ok-answer.ensures)

pub loop-preserved : goal.loop-preserved
loop-preserved g c = λ answer tells. c.loop.invariant answer ((rw c.in_default.is at c.in_ok-answer.ensures) answer tells)
