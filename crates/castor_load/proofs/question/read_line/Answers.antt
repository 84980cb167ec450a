use Rattle.castor_load.proofs.Fits.{line_values-fit}
use Rattle.castor_load.proofs.question.read_line.Goals as goal

pub returns-then-is_plain-clause-fits : goal.returns-then-is_plain-clause-fits
returns-then-is_plain-clause-fits c = line_values-fit c.args.params.now c.args.line.now c.cut_line.result c.cut_line.ensures

pub returns-else-is_plain-clause-fits : goal.returns-else-is_plain-clause-fits
returns-else-is_plain-clause-fits c = line_values-fit c.args.params.now c.args.line.now c.parse_line.result c.parse_line.ensures
