use Rattle.std.proofs.Common.{ℕ, ◌∙◌, ap}
use Rattle.castor_alg.specs.Sizes.{nodes, nodes_step}
use Rattle.castor_alg.proofs.OperandLaws.{nodes_of_operands}
use Rattle.castor_alg.proofs.RelInduction.{fold-Cross, fold-Concat}
use Rattle.castor_alg.proofs.sizes.+nodes.Goals as goal

pub nodes-returns-in-Cross : goal.nodes-returns-in-Cross
nodes-returns-in-Cross t c = nodes_of_operands _ _ _ _ _ (ap nodes c.in-Cross.is ∙ fold-Cross ℕ nodes_step c.in-Cross.rs) c.as_slice.ensures c.nodes_of_all.ensures c.node_over-in-Cross.ensures

pub nodes-returns-in-Concat : goal.nodes-returns-in-Concat
nodes-returns-in-Concat t c = nodes_of_operands _ _ _ _ _ (ap nodes c.in-Concat.is ∙ fold-Concat ℕ nodes_step c.in-Concat.rs) c.as_slice-in-Concat.ensures c.nodes_of_all-in-Concat.ensures c.node_over-in-Concat.ensures
