-- What holds of each part of a parsed file.
use Rattle.std.specs.Prelude.{◌≡◌, Bool, true, false, ◌&&◌, nat_le, List, [], ◌∷◌, length, Option, Some, None}
use Rattle.std.specs.List.{list_all}
use Rattle.castor_val.specs.Limits.{most_name_bytes, most_text_bytes}
use Rattle.castor_val.specs.declared.value.Ty.{Ty}
use Rattle.castor_val.specs.declared.value.Ty.TheVariants as ty
use Rattle.castor_val.specs.declared.value.Value.{Value}
use Rattle.castor_val.specs.declared.value.Value.TheVariants as value
use Rattle.castor_tree.specs.declared.tree.Word.{Word}
use Rattle.castor_tree.specs.declared.tree.Decl.{Decl}
use Rattle.castor_tree.specs.declared.tree.Decl.TheVariants as decl
use Rattle.castor_tree.specs.declared.tree.PCol.{PCol}
use Rattle.castor_tree.specs.declared.tree.PCol.TheVariants as col
use Rattle.castor_tree.specs.declared.tree.PExpr.{PExpr, fold-PExpr}
use Rattle.castor_tree.specs.declared.tree.PExpr.TheOpen.{PExpr-F}
use Rattle.castor_tree.specs.declared.tree.PExpr.TheOpen as e
use Rattle.castor_tree.specs.declared.tree.Item.{Item}
use Rattle.castor_tree.specs.declared.tree.PAgg.{PAgg}
use Rattle.castor_tree.specs.declared.tree.PAgg.TheVariants as agg
use Rattle.castor_tree.specs.declared.tree.PBound.{PBound}
use Rattle.castor_tree.specs.declared.tree.PBound.TheVariants as bound
use Rattle.castor_tree.specs.declared.tree.PRel.{PRel, fold-PRel}
use Rattle.castor_tree.specs.declared.tree.PRel.TheOpen.{PRel-F}
use Rattle.castor_tree.specs.declared.tree.PRel.TheOpen as r
use Rattle.castor_tree.specs.declared.tree.File.{File}
use Rattle.castor_tokens.specs.Tokens.{is_name}
use Rattle.castor_tree.specs.Sizes.{IsSmall}

-- a name of at most 64 bytes
abbrev pub is_word : Word → Bool
is_word w = is_name w.text && nat_le (length w.text) most_name_bytes

abbrev pub is_alias : Option Word → Bool
is_alias None = true
is_alias (Some w) = is_word w

-- a column's words are names
abbrev pub is_col : PCol → Bool
is_col (col.Name w) = is_word w
is_col (col.Dotted v w) = is_word v && is_word w
is_col (col.Number n) = true

-- a literal has the type of its value, and a text has at most 65,535 bytes
abbrev pub is_literal : Ty → Value → Bool
is_literal ty.Int (value.Int z) = true
is_literal ty.Bool (value.Bool b) = true
is_literal ty.Text (value.Text z) = nat_le (length z) most_text_bytes
is_literal t v = false

abbrev pub expr_formed_step : PExpr-F Bool → Bool
expr_formed_step (e.Col c) = is_col c
expr_formed_step (e.ScopeAt k n) = is_word k
expr_formed_step (e.Param p) = is_word p
expr_formed_step (e.Lit t v) = is_literal t v
expr_formed_step (e.Bin op a b) = a && b
expr_formed_step (e.Not a) = a
expr_formed_step (e.If c a b) = c && (a && b)

-- all names and literals of an expression are
abbrev pub is_expr_formed : PExpr → Bool
is_expr_formed a = fold-PExpr Bool expr_formed_step a

abbrev pub is_item_formed : Item → Bool
is_item_formed i = is_expr_formed i.expr && is_alias i.name

abbrev pub is_aggregate_formed : PAgg → Bool
is_aggregate_formed agg.Count = true
is_aggregate_formed (agg.Sum c) = is_col c
is_aggregate_formed (agg.Min c) = is_col c
is_aggregate_formed (agg.Max c) = is_col c

abbrev pub is_agg_formed : PAgg × Option Word → Bool
is_agg_formed a = is_aggregate_formed a.0 && is_alias a.1

abbrev pub is_key_formed : PCol × Bool → Bool
is_key_formed k = is_col k.0

abbrev pub is_bound_formed : PBound → Bool
is_bound_formed bound.Any = true
is_bound_formed (bound.Incl a) = is_expr_formed a
is_bound_formed (bound.Excl a) = is_expr_formed a

-- the list has a member
abbrev pub has_some : {A : Type 0} → List A → Bool
has_some [] = false
has_some (x ∷ xs) = true

abbrev pub are_true : List Bool → Bool
are_true bs = list_all (λ b. b) bs

abbrev pub formed_step : PRel-F Bool → Bool
formed_step (r.Table w) = is_word w
formed_step (r.Scalar i) = is_item_formed i
formed_step (r.Cross ps) = has_some ps && are_true ps
formed_step (r.Concat ps) = has_some ps && are_true ps
formed_step (r.Select is p) = has_some is && (list_all is_item_formed is && p)
formed_step (r.Filter a p) = is_expr_formed a && p
formed_step (r.Join a p q) = is_expr_formed a && (p && q)
formed_step (r.DepJoin k p q) = is_word k && (p && q)
formed_step (r.List k p q) = is_word k && (p && q)
formed_step (r.Hash k p q keys) = is_word k && (p && (q && (has_some keys && list_all is_expr_formed keys)))
formed_step (r.Ord k p q lo hi) = is_word k && (p && (q && (is_bound_formed lo && is_bound_formed hi)))
formed_step (r.Group keys aggs p) = list_all is_col keys && (list_all is_agg_formed aggs && p)
formed_step (r.Order keys p) = has_some keys && (list_all is_key_formed keys && p)
formed_step (r.Dedup p) = p

-- all names and literals of a relation are, and its lists that the grammar gives a member have one
abbrev pub is_formed : PRel → Bool
is_formed q = fold-PRel Bool formed_step q

abbrev pub is_column_formed : Word × Ty → Bool
is_column_formed c = is_word c.0

abbrev pub is_decl_formed : Decl → Bool
is_decl_formed (decl.Table w cs) = is_word w && (has_some cs && list_all is_column_formed cs)
is_decl_formed (decl.Param w t) = is_word w

-- A file whose names are names of at most 64 bytes, whose literals are of their types, whose lists have a
-- member where the grammar gives them one, and whose tree is small.
pub record IsFormed (file : File) : Type 0 where
  pub decls : list_all is_decl_formed file.decls ≡ true
  pub query : is_formed file.query ≡ true
  pub small : IsSmall file.query
