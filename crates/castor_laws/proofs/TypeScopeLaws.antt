-- Types depend on the scopes that are read alone.
use Rattle.std.proofs.Common.{◌≡◌, ◌∙◌, ℕ, List, [], ◌∷◌, ◌++◌, map, refl, sym, ap, Bool, true, false, not, ◌&&◌, ◌==◌, Some, None, option_and_then, option_map, slice_get, if◌then◌else◌}
use Rattle.std.specs.List.{list_any}
use Rattle.std.proofs.lemmas.Bool.{eq-eqb, eqb-true, or_left, or_right}
use Rattle.castor_val.specs.declared.value.Ty.{Ty}
use Rattle.castor_val.specs.declared.value.Ty.TheVariants.{Bool as Truth}
use Rattle.castor_alg.specs.declared.context.Context.{Context}
use Rattle.castor_alg.specs.declared.expr.Expr.{Expr}
use Rattle.castor_alg.specs.declared.rel.Bound.{Bound}
use Rattle.castor_alg.specs.declared.rel.Bound.TheVariants.{Any, Incl, Excl}
use Rattle.castor_alg.specs.declared.rel.Rel.{Rel}
use Rattle.castor_alg.specs.FreeScopes.{bound_reads, free_step, is_free, passes, reads, reads_step}
use Rattle.castor_alg.specs.Typing.{allowed, are_hash_keys, are_sorting_keys, choice_type, common_types, cross_types, each, extended, group_types, is_bound, is_of, is_range, negation_type, operator_type, scope_types, types_of_each, types_under, with_both, within_limits}
use Rattle.castor_alg.proofs.ExprInduction.{expr_induction, fold-Scope, fold-Bin, fold-Not, fold-If}
use Rattle.castor_alg.proofs.RelInduction.{With, relations, rel_induction, fold-Scalar, fold-Cross, fold-Concat, fold-Select, fold-Filter, fold-Join, fold-DepJoin, fold-Group, fold-Order, fold-Dedup, fold-List, fold-Hash, fold-Ord}
use Rattle.castor_alg.proofs.TypingLaws.{scope_types-append, scope_types-extended}
use Rattle.castor_laws.specs.Independence.{SameScopeTypes, TypeIgnores, TypeRestsOnReads, TypesIgnore, TypesRestOnFree}
use Rattle.castor_laws.proofs.TypeClauseLaws.{type_under-Col, type_under-Scope, type_under-Param, type_under-Lit, type_under-Bin, type_under-Not, type_under-If, types_under-Table, types_under-Scalar, types_under-Cross, types_under-Concat, types_under-Select, types_under-Filter, types_under-Join, types_under-DepJoin, types_under-Group, types_under-Order, types_under-Dedup, types_under-List, types_under-Hash, types_under-Ord}

-- the context with other scopes
abbrev with_scopes : Context → List (ℕ × List Ty) → Context
with_scopes context others = record context { scopes = others }

pub expr_type_rests : (e : Expr) → TypeRestsOnReads e
expr_type_rests = expr_induction TypeRestsOnReads record {
  col = λ i columns context others agree. type_under-Col columns context i ∙ sym (type_under-Col columns (with_scopes context others) i);
  scope = λ k i columns context others agree.
      let here = agree k (fold-Scope Bool (reads_step k) k i ∙ eq-eqb k k refl) in
      type_under-Scope columns context k i ∙ ap (option_and_then (λ types. slice_get types i)) here ∙ sym (type_under-Scope columns (with_scopes context others) k i);
  param = λ i columns context others agree. type_under-Param columns context i ∙ sym (type_under-Param columns (with_scopes context others) i);
  lit = λ v columns context others agree. type_under-Lit columns context v ∙ sym (type_under-Lit columns (with_scopes context others) v);
  bin = λ op a b x y columns context others agree.
      let left = x columns context others (λ j is. agree j (fold-Bin Bool (reads_step j) op a b ∙ or_left _ _ is)) in
      let right = y columns context others (λ j is. agree j (fold-Bin Bool (reads_step j) op a b ∙ or_right _ _ is)) in
      type_under-Bin columns context op a b ∙ (λ i. operator_type op (left i) (right i)) ∙ sym (type_under-Bin columns (with_scopes context others) op a b);
  not = λ a x columns context others agree.
      let part = x columns context others (λ j is. agree j (fold-Not Bool (reads_step j) a ∙ is)) in
      type_under-Not columns context a ∙ ap negation_type part ∙ sym (type_under-Not columns (with_scopes context others) a);
  cond = λ c a b w x y columns context others agree.
      let test = w columns context others (λ j is. agree j (fold-If Bool (reads_step j) c a b ∙ or_left _ _ is)) in
      let left = x columns context others (λ j is. agree j (fold-If Bool (reads_step j) c a b ∙ or_right _ _ (or_left _ _ is))) in
      let right = y columns context others (λ j is. agree j (fold-If Bool (reads_step j) c a b ∙ or_right _ _ (or_right _ _ is))) in
      type_under-If columns context c a b ∙ (λ i. choice_type (test i) (left i) (right i)) ∙ sym (type_under-If columns (with_scopes context others) c a b);
}

-- and so do the types of several expressions
exprs_types_rest : (es : List Expr) (columns : List Ty) (context : Context) (others : List (ℕ × List Ty)) → SameScopeTypes (λ j. list_any (reads j) es) context.scopes others → types_of_each es columns context ≡ types_of_each es columns (with_scopes context others)
exprs_types_rest [] columns context others agree = refl
exprs_types_rest (e ∷ es) columns context others agree =
    let first = expr_type_rests e columns context others (λ j is. agree j (or_left _ _ is)) in
    let rest = exprs_types_rest es columns context others (λ j is. agree j (or_right _ _ is)) in
    λ i. with_both (λ t ts. t ∷ ts) (first i) (rest i)

-- and of what type a bound is
bound_rests : (t : Ty) (b : Bound) (context : Context) (others : List (ℕ × List Ty)) → SameScopeTypes (λ j. bound_reads j b) context.scopes others → is_bound t b context ≡ is_bound t b (with_scopes context others)
bound_rests t Any context others agree = refl
bound_rests t (Incl e) context others agree = ap (is_of t) (expr_type_rests e [] context others agree)
bound_rests t (Excl e) context others agree = ap (is_of t) (expr_type_rests e [] context others agree)

range_rests : (columns : List Ty) (lo hi : Bound) (context : Context) (others : List (ℕ × List Ty)) → SameScopeTypes (λ j. bound_reads j lo) context.scopes others → SameScopeTypes (λ j. bound_reads j hi) context.scopes others → is_range columns lo hi context ≡ is_range columns lo hi (with_scopes context others)
range_rests [] lo hi context others from to = refl
range_rests (t ∷ []) lo hi context others from to = λ i. bound_rests t lo context others from i && bound_rests t hi context others to i
range_rests (t ∷ u ∷ types) lo hi context others from to = refl

-- scopes that one more is bound in agree where the body reads, if they agree where the body reads another scope
bound_agree : (k : ℕ) (bound : List Ty) (scopes others : List (ℕ × List Ty)) (j : ℕ) (b : Bool) → (k == j) ≡ b → (not b ≡ true → scope_types scopes j ≡ scope_types others j) → scope_types (scopes ++ (k, bound) ∷ []) j ≡ scope_types (others ++ (k, bound) ∷ []) j
bound_agree k bound scopes others j true is agree =
    scope_types-append scopes (k, bound) j
    ∙ ap (λ b. if b then Some bound else scope_types scopes j) is
    ∙ sym (scope_types-append others (k, bound) j ∙ ap (λ b. if b then Some bound else scope_types others j) is)
bound_agree k bound scopes others j false is agree =
    scope_types-append scopes (k, bound) j
    ∙ ap (λ b. if b then Some bound else scope_types scopes j) is
    ∙ agree refl
    ∙ sym (scope_types-append others (k, bound) j ∙ ap (λ b. if b then Some bound else scope_types others j) is)

-- the body of a binder has the same column types
pub body_types_rest : (k : ℕ) (s : Rel) → TypesRestOnFree s → (context : Context) (others : List (ℕ × List Ty)) → SameScopeTypes (λ j. passes j k (is_free j s)) context.scopes others → (columns : List Ty) → types_under s (extended context k columns) ≡ types_under s (extended (with_scopes context others) k columns)
body_types_rest k s rests context others agree columns =
    rests (extended context k columns) (others ++ (k, columns) ∷ [])
    (λ j is. bound_agree k columns context.scopes others j (k == j) refl (λ passing. agree j (ap (λ b. b && is_free j s) passing ∙ is)))

operands_types_rest : (rs : List (With TypesRestOnFree)) (context : Context) (others : List (ℕ × List Ty)) → SameScopeTypes (λ j. list_any (λ b. b) (map (is_free j) (relations rs))) context.scopes others → map (λ (r : Rel). types_under r context) (relations rs) ≡ map (λ (r : Rel). types_under r (with_scopes context others)) (relations rs)
operands_types_rest [] context others agree = refl
operands_types_rest (r ∷ rs) context others agree =
    let first = r.1 context others (λ j is. agree j (or_left _ _ is)) in
    let rest = operands_types_rest rs context others (λ j is. agree j (or_right _ _ is)) in
    λ i. first i ∷ rest i

pub rel_types_rest : (q : Rel) → TypesRestOnFree q
rel_types_rest = rel_induction TypesRestOnFree record {
  table = λ n context others agree. types_under-Table context n ∙ sym (types_under-Table (with_scopes context others) n);
  scalar = λ e context others agree.
      let part = expr_type_rests e [] context others (λ j is. agree j (fold-Scalar Bool (free_step j) e ∙ is)) in
      types_under-Scalar context e ∙ ap (option_map (λ t. t ∷ [])) part ∙ sym (types_under-Scalar (with_scopes context others) e);
  cross = λ rs context others agree.
      let all = operands_types_rest rs context others (λ j is. agree j (fold-Cross Bool (free_step j) (relations rs) ∙ is)) in
      types_under-Cross context (relations rs) ∙ ap cross_types all ∙ sym (types_under-Cross (with_scopes context others) (relations rs));
  concat = λ rs context others agree.
      let all = operands_types_rest rs context others (λ j is. agree j (fold-Concat Bool (free_step j) (relations rs) ∙ is)) in
      types_under-Concat context (relations rs) ∙ ap (λ os. option_and_then common_types (each os)) all ∙ sym (types_under-Concat (with_scopes context others) (relations rs));
  select = λ es r x context others agree.
      let source = x context others (λ j is. agree j (fold-Select Bool (free_step j) es r ∙ or_right _ _ is)) in
      let types = λ (columns : List Ty). exprs_types_rest es columns context others (λ j is. agree j (fold-Select Bool (free_step j) es r ∙ or_left _ _ is)) in
      types_under-Select context es r ∙ (λ i. option_and_then (λ columns. within_limits (types columns i)) (source i)) ∙ sym (types_under-Select (with_scopes context others) es r);
  filter = λ e r x context others agree.
      let source = x context others (λ j is. agree j (fold-Filter Bool (free_step j) e r ∙ or_right _ _ is)) in
      let test = λ (columns : List Ty). expr_type_rests e columns context others (λ j is. agree j (fold-Filter Bool (free_step j) e r ∙ or_left _ _ is)) in
      types_under-Filter context e r ∙ (λ i. option_and_then (λ columns. allowed (is_of Truth (test columns i)) columns) (source i)) ∙ sym (types_under-Filter (with_scopes context others) e r);
  join = λ e r s x y context others agree.
      let left = x context others (λ j is. agree j (fold-Join Bool (free_step j) e r s ∙ or_right _ _ (or_left _ _ is))) in
      let right = y context others (λ j is. agree j (fold-Join Bool (free_step j) e r s ∙ or_right _ _ (or_right _ _ is))) in
      let test = λ (columns : List Ty). expr_type_rests e columns context others (λ j is. agree j (fold-Join Bool (free_step j) e r s ∙ or_left _ _ is)) in
      types_under-Join context e r s ∙ (λ i. option_and_then (λ columns. allowed (is_of Truth (test columns i)) columns) (cross_types (left i ∷ right i ∷ []))) ∙ sym (types_under-Join (with_scopes context others) e r s);
  depjoin = λ k r s x y context others agree.
      let source = x context others (λ j is. agree j (fold-DepJoin Bool (free_step j) k r s ∙ or_left _ _ is)) in
      let body = body_types_rest k s y context others (λ j is. agree j (fold-DepJoin Bool (free_step j) k r s ∙ or_right _ _ is)) in
      types_under-DepJoin context k r s ∙ (λ i. option_and_then (λ columns. body columns i) (source i)) ∙ sym (types_under-DepJoin (with_scopes context others) k r s);
  group = λ ks aggs r x context others agree.
      let source = x context others (λ j is. agree j (fold-Group Bool (free_step j) ks aggs r ∙ is)) in
      types_under-Group context ks aggs r ∙ ap (option_and_then (λ columns. group_types ks aggs columns)) source ∙ sym (types_under-Group (with_scopes context others) ks aggs r);
  order = λ ks r x context others agree.
      let source = x context others (λ j is. agree j (fold-Order Bool (free_step j) ks r ∙ is)) in
      types_under-Order context ks r ∙ ap (option_and_then (λ columns. allowed (are_sorting_keys ks columns) columns)) source ∙ sym (types_under-Order (with_scopes context others) ks r);
  dedup = λ r x context others agree.
      let source = x context others (λ j is. agree j (fold-Dedup Bool (free_step j) r ∙ is)) in
      types_under-Dedup context r ∙ source ∙ sym (types_under-Dedup (with_scopes context others) r);
  list = λ k r s x y context others agree.
      let source = x context others (λ j is. agree j (fold-List Bool (free_step j) k r s ∙ or_left _ _ is)) in
      let body = body_types_rest k s y context others (λ j is. agree j (fold-List Bool (free_step j) k r s ∙ or_right _ _ is)) in
      types_under-List context k r s ∙ (λ i. option_and_then (λ columns. body columns i) (source i)) ∙ sym (types_under-List (with_scopes context others) k r s);
  hash = λ k r s es x y context others agree.
      let source = x context others (λ j is. agree j (fold-Hash Bool (free_step j) k r s es ∙ or_right _ _ (or_left _ _ is))) in
      let body = body_types_rest k s y context others (λ j is. agree j (fold-Hash Bool (free_step j) k r s es ∙ or_right _ _ (or_right _ _ is))) in
      let keys = exprs_types_rest es [] context others (λ j is. agree j (fold-Hash Bool (free_step j) k r s es ∙ or_left _ _ is)) in
      types_under-Hash context k r s es ∙ (λ i. option_and_then (λ columns. if are_hash_keys columns (keys i) then body columns i else None) (source i)) ∙ sym (types_under-Hash (with_scopes context others) k r s es);
  ordered = λ k r s lo hi x y context others agree.
      let source = x context others (λ j is. agree j (fold-Ord Bool (free_step j) k r s lo hi ∙ or_right _ _ (or_left _ _ is))) in
      let body = body_types_rest k s y context others (λ j is. agree j (fold-Ord Bool (free_step j) k r s lo hi ∙ or_right _ _ (or_right _ _ is))) in
      let range = λ (columns : List Ty). range_rests columns lo hi context others (λ j is. agree j (fold-Ord Bool (free_step j) k r s lo hi ∙ or_left _ _ (or_left _ _ is))) (λ j is. agree j (fold-Ord Bool (free_step j) k r s lo hi ∙ or_left _ _ (or_right _ _ is))) in
      types_under-Ord context k r s lo hi ∙ (λ i. option_and_then (λ columns. if range columns i then body columns i else None) (source i)) ∙ sym (types_under-Ord (with_scopes context others) k r s lo hi);
}

-- in the body of a binder its own scope has the types of the source
pub scope_types-bound : (context : Context) (k : ℕ) (types : List Ty) → scope_types (extended context k types).scopes k ≡ Some types
scope_types-bound context k types = scope_types-extended context k types k ∙ ap (λ (b : Bool). if b then Some types else scope_types context.scopes k) (eq-eqb k k refl)

-- another scope than the one that is bound
clash : {P : Type 0} (b : Bool) → b ≡ true → b ≡ false → P
clash b is isnt = cc

other_scope : (k j : ℕ) (bound : List Ty) (scopes : List (ℕ × List Ty)) (is_read : ℕ → Bool) → is_read k ≡ false → is_read j ≡ true → (b : Bool) → (k == j) ≡ b → scope_types (scopes ++ (k, bound) ∷ []) j ≡ scope_types scopes j
other_scope k j bound scopes is_read unread read true is = clash (is_read k) (ap is_read (eqb-true k j is) ∙ read) unread
other_scope k j bound scopes is_read unread read false is = scope_types-append scopes (k, bound) j ∙ ap (λ b. if b then Some bound else scope_types scopes j) is

pub type_ignores : (e : Expr) (k : ℕ) → TypeIgnores e k
type_ignores e k unread columns context bound = expr_type_rests e columns (extended context k bound) context.scopes (λ j read. other_scope k j bound context.scopes (λ m. reads m e) unread read (k == j) refl)

pub types_of_each_ignore : (es : List Expr) (k : ℕ) → list_any (reads k) es ≡ false → (columns : List Ty) (context : Context) (bound : List Ty) → types_of_each es columns (extended context k bound) ≡ types_of_each es columns context
types_of_each_ignore es k unread columns context bound = exprs_types_rest es columns (extended context k bound) context.scopes (λ j read. other_scope k j bound context.scopes (λ m. list_any (reads m) es) unread read (k == j) refl)

pub types_ignore : (q : Rel) (k : ℕ) → TypesIgnore q k
types_ignore q k unfree context bound = rel_types_rest q (extended context k bound) context.scopes (λ j free. other_scope k j bound context.scopes (λ m. is_free m q) unfree free (k == j) refl)

-- also under another binder
pub body_types_ignore : (q : Rel) (k j : ℕ) → is_free k q ≡ false → (context : Context) (bound columns : List Ty) → types_under q (extended (extended context k bound) j columns) ≡ types_under q (extended context j columns)
body_types_ignore q k j unfree context bound columns = body_types_rest j q (rel_types_rest q) (extended context k bound) context.scopes (λ m passing. other_scope k m bound context.scopes (λ m. passes m j (is_free m q)) (unpassed (j == k) (is_free k q) unfree) passing (k == m) refl) columns
  where
    unpassed : (same free : Bool) → free ≡ false → (not same && free) ≡ false
    unpassed true free is = refl
    unpassed false free is = is
