-- The code for a query whose data is held: with the least ranges that hold all that stands at each place.
use Rattle.std.specs.Prelude.{ℕ, ◌+◌, List, [], ◌∷◌, map, length, slice_get, Option, Some, None}
use Rattle.std.specs.List.{flat_map}
use Rattle.castor_val.specs.declared.value.Ty.{Ty}
use Rattle.castor_val.specs.declared.value.Ty.TheVariants as ty
use Rattle.castor_val.specs.declared.value.Value.{Value}
use Rattle.castor_alg.specs.declared.context.Context.{Context}
use Rattle.castor_alg.specs.declared.held.Entry.{Entry}
use Rattle.castor_alg.specs.declared.held.Held.{Held}
use Rattle.castor_alg.specs.declared.expr.Expr.{Expr}
use Rattle.castor_alg.specs.declared.rel.Bound.{Bound}
use Rattle.castor_alg.specs.declared.rel.Rel.{Rel, fold-Rel}
use Rattle.castor_alg.specs.declared.rel.Rel.TheFolds.{map-Rel}
use Rattle.castor_alg.specs.declared.rel.Rel.TheOpen.{Rel-F}
use Rattle.castor_alg.specs.declared.rel.Rel.TheOpen as rel
use Rattle.castor_alg.specs.Typing.{RelTyping, column_types_step, extended, type_under}
use Rattle.castor_code.specs.declared.code.Code.{Code, Bool, Cross, Concat, List as Listed, Hash, Ord, Select, Filter, Dep, Group, Order, Dedup}
use Rattle.castor_code.specs.declared.code.Range.{Range}
use Rattle.castor_code.specs.Data.{format, writers}
use Rattle.castor_code.specs.Directories.{entry_piece, size}
use Rattle.castor_code.specs.LayoutMeaning.{all_in}
use Rattle.castor_code.specs.Pieces.{one_after_other}
use Rattle.castor_code.specs.Shapes.{leaf_of}
use Rattle.castor_ltype.specs.Places.{children, entries, inner, int_in, key_value, part, text_length_in}
use Rattle.castor_ltype.specs.Ranges.{int_code, least_range, text_code}

-- the code of values of a type
abbrev pub scalar_code : Option Ty → List (Option Value) → Code
scalar_code (Some ty.Int) values = int_code (flat_map int_in values)
scalar_code (Some ty.Bool) values = Bool
scalar_code (Some ty.Text) values = text_code (flat_map text_length_in values)
scalar_code None values = Bool

-- the code of a list of children, over all children of all lists
abbrev pub list_code : (List Held → Code) → List Held → Code
list_code body hs =
    let kid = body (flat_map children hs) in
    Listed (least_range (map (λ h. length (children h)) hs)) (least_range (map (λ h. length (one_after_other (format kid).write (children h)).bytes) hs)) kid

-- the codes of the columns of keys, from a column on
abbrev pub key_codes : ℕ → List Ty → List Entry → List Code
key_codes j [] es = []
key_codes j (t ∷ types) es = scalar_code (Some t) (map (key_value j) es) ∷ key_codes (j + 1) types es

-- what stands under the keys
abbrev pub kids : List Entry → List Held
kids es = map (λ (e : Entry). e.kid) es

-- the range of the numbers of entries of indexes
abbrev pub count_range : List Held → Range
count_range hs = least_range (map (λ h. length (entries h)) hs)

-- the range of the numbers of bytes of their entries, without the directories
abbrev pub body_range : List Code → Code → List Held → Range
body_range key kid hs = least_range (map (λ h. size (entry_piece (writers (map format key)) (format kid).write) (entries h)) hs)

-- the code of hash indexes, over all entries of all of them
abbrev pub hash_code : List Ty → (List Held → Code) → List Expr → List Held → Code
hash_code types body by hs =
    let all = flat_map entries hs in
    let key = key_codes 0 types all in
    let kid = body (kids all) in
    Hash (count_range hs) (body_range key kid hs) key kid by

-- the code of ordered indexes, over all entries of all of them
abbrev pub ord_code : List Ty → (List Held → Code) → Bound → Bound → List Held → Code
ord_code types body lo hi hs =
    let all = flat_map entries hs in
    let key = scalar_code (slice_get types 0) (map (key_value 0) all) in
    let kid = body (kids all) in
    Ord (count_range hs) (body_range (key ∷ []) kid hs) key kid lo hi

-- the code for all that stands at one place takes the context there
abbrev pub Generating : Type 0
Generating = Context → List Held → Code

-- the column types of a relation, and the code for what it holds
pub record Generator : Type 0 where
  pub types : RelTyping
  pub code : Generating

-- the codes of operands, each over all parts with its number
abbrev pub part_codes : ℕ → List Generator → Context → List Held → List Code
part_codes i [] context hs = []
part_codes i (r ∷ rs) context hs = r.code context (map (part i) hs) ∷ part_codes (i + 1) rs context hs

-- the column types of a source
abbrev pub columns : Generator → Context → List Ty
columns r context = all_in (r.types context)

-- the code in the body of a binder
abbrev pub in_body : ℕ → Generator → Generator → Context → List Held → Code
in_body k r s context hs = s.code (extended context k (columns r context)) hs

-- one node, over the codes of its operands. A table and a join hold nothing: they don't stand where data is held
abbrev pub code_step : Rel-F Generator → Generating
code_step (rel.Table n) context hs = Cross []
code_step (rel.Scalar e) context hs = scalar_code (type_under e [] context) (map leaf_of hs)
code_step (rel.Cross rs) context hs = Cross (part_codes 0 rs context hs)
code_step (rel.Concat rs) context hs = Concat (part_codes 0 rs context hs)
code_step (rel.Select es r) context hs = Select es (r.code context (map inner hs))
code_step (rel.Filter e r) context hs = Filter e (r.code context (map inner hs))
code_step (rel.Join e r s) context hs = Cross []
code_step (rel.DepJoin k r s) context hs = Dep k (r.code context (map (part 0) hs)) (in_body k r s context (map (part 1) hs))
code_step (rel.Group ks aggs r) context hs = Group ks aggs (r.code context (map inner hs))
code_step (rel.Order ks r) context hs = Order ks (r.code context (map inner hs))
code_step (rel.Dedup r) context hs = Dedup (r.code context (map inner hs))
code_step (rel.List k r s) context hs = list_code (in_body k r s context) hs
code_step (rel.Hash k r s es) context hs = hash_code (columns r context) (in_body k r s context) es hs
code_step (rel.Ord k r s lo hi) context hs = ord_code (columns r context) (in_body k r s context) lo hi hs

abbrev pub generator_step : Rel-F Generator → Generator
generator_step layer = record {
  types = column_types_step (map-Rel Generator RelTyping (λ (r : Generator). r.types) layer);
  code = code_step layer;
}

abbrev pub generator : Rel → Generator
generator q = fold-Rel Generator generator_step q

-- the code of a relation for all that is held at one place, under the context there
abbrev pub code_over : Rel → Generating
code_over q = (generator q).code

-- the code of a query for what is held for it
abbrev pub code_for : Rel → Context → Held → Code
code_for q context held = code_over q context (held ∷ [])
