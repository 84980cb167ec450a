use Rattle.std.proofs.Common.{◌≡◌, ◌≤◌, ◌++◌, ℕ, List, length}
use Rattle.std.specs.Io.KnownBytes.{Appends}
use Rattle.castor_cli.specs.Answers.{answers, content_in}
use Rattle.castor_cli.proofs.answers.print_answers.Given as goal

abbrev pub invariant-loop-rest : goal.invariant-loop-rest
invariant-loop-rest g l =
    (done : List ℕ) × (answers (content_in l.image) l.input ≡ done ++ answers (content_in l.image) l.rest)
    × Appends (g.O.Sink.given l.fn.out) (g.O.Sink.given l.out) done
    × (g.O.Sink.faults l.fn.out ≤ g.O.Sink.faults l.out) × (l.steps ≡ l.fn.steps)

abbrev pub decreases-loop-rest : goal.decreases-loop-rest
decreases-loop-rest g l = length l.rest
