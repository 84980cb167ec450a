use Rattle.std.proofs.lemmas.List.{take_rest}
use Rattle.castor_cli.specs.Lines.{lines_of}
use Rattle.castor_cli.proofs.Cuts.{lines-cut_at, lines-whole, position-found, position-missing}
use Rattle.castor_cli.proofs.lines.cut_line.Goals as goal

pub returns-in-Some-clause-cut : goal.returns-in-Some-clause-cut
returns-in-Some-clause-cut c =
    let found = position-found c.args.text.now c.in-Some.at c.in-Some.ensures in
    rw take_rest (lines-cut_at c.args.text.now c.in-Some.at found.0 found.1)

pub returns-in-None-clause-cut : goal.returns-in-None-clause-cut
unfolding lines_of
returns-in-None-clause-cut c = lines-whole c.args.text.now c.requires (position-missing c.args.text.now c.in-None.ensures)
