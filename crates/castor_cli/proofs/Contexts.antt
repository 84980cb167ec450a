-- Codes read no tables, so they have the same column types where there are none.
use Rattle.std.proofs.Common.{◌≡◌, ◌∙◌, List, [], ◌∷◌, ◌&&◌, map, Bool, true, false, Some, None, option_and_then, if◌then◌else◌, refl, sym, ap}
use Rattle.castor_val.specs.declared.value.Ty.{Ty}
use Rattle.castor_val.specs.declared.value.Ty.TheVariants.{Int, Bool as Truth, Text}
use Rattle.castor_alg.specs.declared.context.Context.{Context}
use Rattle.castor_alg.specs.declared.expr.Expr.{Expr}
use Rattle.castor_alg.specs.declared.expr.Expr as E
use Rattle.castor_alg.specs.declared.rel.Bound.{Bound}
use Rattle.castor_alg.specs.declared.rel.Bound.TheVariants.{Any, Incl, Excl}
use Rattle.castor_alg.specs.Typing.{ExprTyping, RelTyping, allowed, are_hash_keys, are_sorting_keys, choice_type, common_types, cross_types, each, expr_type_step, extended, group_types, is_bound, is_context, is_of, is_range, negation_type, operator_type, same_types, type_under, types_of_each, within_limits}
use Rattle.castor_alg.proofs.ExprInduction.{expr_induction, fold-Bin, fold-Col, fold-If, fold-Lit, fold-Not, fold-Param, fold-Scope}
use Rattle.castor_code.specs.declared.code.Code.{Code, fold-Code}
use Rattle.castor_code.specs.declared.code.Code as C
use Rattle.castor_code.specs.CodeTyping.{code_types, code_types_step}
use Rattle.castor_code.proofs.CodeInduction.{With, code_induction, codes, fold-Bool, fold-Concat, fold-Cross, fold-Dedup, fold-Dep, fold-Filter, fold-Group, fold-Hash, fold-Int, fold-List, fold-Ord, fold-Order, fold-Select, fold-Text}
use Rattle.castor_image.specs.Images.{fits_head}
use Rattle.castor_schema.specs.declared.checked.Checked.{Checked}
use Rattle.castor_val.specs.Columns.{types_of}
use Rattle.castor_schema.specs.WellTyped.{query_context}
use Rattle.castor_cli.specs.Building.{head_of}

abbrev with_tables : List (List Ty) → Context → Context
with_tables tables context = record { tables = tables; scopes = context.scopes; params = context.params }

-- ---- expressions

abbrev ReadsNoTable : Expr → Type 0
ReadsNoTable e = (tables : List (List Ty)) (columns : List Ty) (context : Context) → type_under e columns (with_tables tables context) ≡ type_under e columns context

same_typing : (e : Expr) (typing : ExprTyping) (columns : List Ty) (a b : Context) → type_under e ≡ typing → typing columns a ≡ typing columns b → type_under e columns a ≡ type_under e columns b
same_typing e typing columns a b is h = ap (λ (t : ExprTyping). t columns a) is ∙ h ∙ sym (ap (λ (t : ExprTyping). t columns b) is)

expr_reads_none : (e : Expr) → ReadsNoTable e
expr_reads_none = expr_induction ReadsNoTable (record {
  col = λ i tables columns context. same_typing (E.Col i) _ columns _ context (fold-Col ExprTyping expr_type_step i) refl;
  scope = λ j i tables columns context. same_typing (E.Scope j i) _ columns _ context (fold-Scope ExprTyping expr_type_step j i) refl;
  param = λ i tables columns context. same_typing (E.Param i) _ columns _ context (fold-Param ExprTyping expr_type_step i) refl;
  lit = λ v tables columns context. same_typing (E.Lit v) _ columns _ context (fold-Lit ExprTyping expr_type_step v) refl;
  bin = λ op a b left right tables columns context.
      same_typing (E.Bin op a b) _ columns _ context (fold-Bin ExprTyping expr_type_step op a b) (λ i. operator_type op (left tables columns context i) (right tables columns context i));
  not = λ a known tables columns context. same_typing (E.Not a) _ columns _ context (fold-Not ExprTyping expr_type_step a) (ap negation_type (known tables columns context));
  cond = λ c a b test left right tables columns context.
      same_typing (E.If c a b) _ columns _ context (fold-If ExprTyping expr_type_step c a b) (λ i. choice_type (test tables columns context i) (left tables columns context i) (right tables columns context i));
})

each_reads_none : (es : List Expr) (tables : List (List Ty)) (columns : List Ty) (context : Context) → map (λ e. type_under e columns (with_tables tables context)) es ≡ map (λ e. type_under e columns context) es
each_reads_none [] tables columns context = refl
each_reads_none (e ∷ es) tables columns context = λ i. expr_reads_none e tables columns context i ∷ each_reads_none es tables columns context i

types_read_none : (es : List Expr) (tables : List (List Ty)) (columns : List Ty) (context : Context) → types_of_each es columns (with_tables tables context) ≡ types_of_each es columns context
types_read_none es tables columns context = ap each (each_reads_none es tables columns context)

bound_reads_none : (t : Ty) (b : Bound) (tables : List (List Ty)) (context : Context) → is_bound t b (with_tables tables context) ≡ is_bound t b context
bound_reads_none t Any tables context = refl
bound_reads_none t (Incl e) tables context = ap (is_of t) (expr_reads_none e tables [] context)
bound_reads_none t (Excl e) tables context = ap (is_of t) (expr_reads_none e tables [] context)

range_reads_none : (columns : List Ty) (lo hi : Bound) (tables : List (List Ty)) (context : Context) → is_range columns lo hi (with_tables tables context) ≡ is_range columns lo hi context
range_reads_none [] lo hi tables context = refl
range_reads_none (t ∷ []) lo hi tables context = λ i. bound_reads_none t lo tables context i && bound_reads_none t hi tables context i
range_reads_none (t ∷ u ∷ types) lo hi tables context = refl

-- ---- codes

abbrev typing_of : Code → RelTyping
typing_of c = fold-Code RelTyping code_types_step c

abbrev CodeReadsNone : Code → Type 0
CodeReadsNone c = (tables : List (List Ty)) (context : Context) → typing_of c (with_tables tables context) ≡ typing_of c context

same_code : (c : Code) (typing : RelTyping) (a b : Context) → typing_of c ≡ typing → typing a ≡ typing b → typing_of c a ≡ typing_of c b
same_code c typing a b is h = ap (λ (t : RelTyping). t a) is ∙ h ∙ sym (ap (λ (t : RelTyping). t b) is)

all_read_none : (cs : List (With CodeReadsNone)) (tables : List (List Ty)) (context : Context)
    → map (λ (k : RelTyping). k (with_tables tables context)) (map typing_of (codes cs)) ≡ map (λ (k : RelTyping). k context) (map typing_of (codes cs))
all_read_none [] tables context = refl
all_read_none (c ∷ cs) tables context = λ i. c.1 tables context i ∷ all_read_none cs tables context i

code_reads_none : (c : Code) → CodeReadsNone c
code_reads_none = code_induction CodeReadsNone (record {
  int = λ lo hi tables context. same_code (C.Int lo hi) _ _ context (fold-Int RelTyping code_types_step lo hi) refl;
  bool = λ tables context. same_code C.Bool _ _ context (fold-Bool RelTyping code_types_step) refl;
  text = λ min max tables context. same_code (C.Text min max) _ _ context (fold-Text RelTyping code_types_step min max) refl;
  cross = λ cs tables context. same_code (C.Cross (codes cs)) _ _ context (fold-Cross RelTyping code_types_step (codes cs)) (ap cross_types (all_read_none cs tables context));
  concat = λ cs tables context.
      same_code (C.Concat (codes cs)) _ _ context (fold-Concat RelTyping code_types_step (codes cs)) (λ i. option_and_then common_types (each (all_read_none cs tables context i)));
  list = λ count body c kid tables context. same_code (C.List count body c) _ _ context (fold-List RelTyping code_types_step count body c) (kid tables context);
  hash = λ count body key c es kid tables context.
      same_code (C.Hash count body (codes key) c es) _ _ context (fold-Hash RelTyping code_types_step count body (codes key) c es)
      (λ i. option_and_then (λ columns. if are_hash_keys columns (types_read_none es tables [] context i) then kid tables context i else None) (cross_types (all_read_none key tables context i)));
  ordered = λ count body key c lo hi keyed kid tables context.
      same_code (C.Ord count body key c lo hi) _ _ context (fold-Ord RelTyping code_types_step count body key c lo hi)
      (λ i. option_and_then (λ columns. if range_reads_none columns lo hi tables context i then kid tables context i else None) (keyed tables context i));
  select = λ es c kid tables context.
      same_code (C.Select es c) _ _ context (fold-Select RelTyping code_types_step es c) (λ i. option_and_then (λ columns. within_limits (types_read_none es tables columns context i)) (kid tables context i));
  filter = λ e c kid tables context.
      same_code (C.Filter e c) _ _ context (fold-Filter RelTyping code_types_step e c) (λ i. option_and_then (λ columns. allowed (is_of Truth (expr_reads_none e tables columns context i)) columns) (kid tables context i));
  dep = λ j c d first second tables context.
      same_code (C.Dep j c d) _ _ context (fold-Dep RelTyping code_types_step j c d) (λ i. option_and_then (λ columns. second tables (extended context j columns) i) (first tables context i));
  group = λ ks aggs c kid tables context. same_code (C.Group ks aggs c) _ _ context (fold-Group RelTyping code_types_step ks aggs c) (ap (option_and_then (λ columns. group_types ks aggs columns)) (kid tables context));
  order = λ ks c kid tables context. same_code (C.Order ks c) _ _ context (fold-Order RelTyping code_types_step ks c) (ap (option_and_then (λ columns. allowed (are_sorting_keys ks columns) columns)) (kid tables context));
  dedup = λ c kid tables context. same_code (C.Dedup c) _ _ context (fold-Dedup RelTyping code_types_step c) (kid tables context);
})

-- the types of a code under a context without scopes are its types where there are no tables
types_without_tables : (c : Code) (tables : List (List Ty)) (params types : List Ty) → code_types c (record { tables = tables; scopes = []; params = params }) ≡ Some types
    → code_types c (record { tables = []; scopes = []; params = params }) ≡ Some types
types_without_tables c tables params types is = by (is_context (record { tables = tables; scopes = []; params = params })) is
  where
    by : (good : Bool) → (if good then typing_of c (record { tables = tables; scopes = []; params = params }) else None) ≡ Some types
        → typing_of c (record { tables = []; scopes = []; params = params }) ≡ Some types
    by true there = code_reads_none c [] (record { tables = tables; scopes = []; params = params }) ∙ there
    by false there = absurd (cc there)

same_itself : (types : List Ty) → same_types types types ≡ true
same_itself [] = refl
same_itself (Int ∷ types) = same_itself types
same_itself (Truth ∷ types) = same_itself types
same_itself (Text ∷ types) = same_itself types

-- a code of the types of a checked query fits its head
pub head_fits : (c : Checked) (code : Code) → code_types code (query_context c) ≡ Some (types_of c.columns) → fits_head code (head_of c) ≡ true
head_fits c code is =
    rw (types_without_tables code (query_context c).tables (types_of c.params) (types_of c.columns) is) (same_itself (types_of c.columns))
