-- The numbers of nodes.
use Rattle.std.specs.Prelude.{ℕ}
use Rattle.castor_code.specs.declared.tag.CodeTag.{CodeTag}
use Rattle.castor_code.specs.declared.tag.CodeTag.TheVariants as tag
use Rattle.castor_code.specs.declared.tag.ExprTag.{ExprTag}
use Rattle.castor_code.specs.declared.tag.ExprTag.TheVariants as part

-- the number of a node of a code
abbrev pub tag_number : CodeTag → ℕ
tag_number tag.Int = 1
tag_number tag.Bool = 2
tag_number tag.Text = 3
tag_number tag.Cross = 4
tag_number tag.Concat = 5
tag_number tag.List = 6
tag_number tag.Hash = 7
tag_number tag.Ord = 8
tag_number tag.Select = 9
tag_number tag.Filter = 10
tag_number tag.Dep = 11
tag_number tag.Group = 12
tag_number tag.Order = 13
tag_number tag.Dedup = 14

-- the number of a node of an expression
abbrev pub expr_number : ExprTag → ℕ
expr_number part.Col = 32
expr_number part.Scope = 33
expr_number part.Param = 34
expr_number part.Int = 35
expr_number part.Bool = 36
expr_number part.Text = 37
expr_number part.Bin = 38
expr_number part.Not = 39
expr_number part.If = 40
