-- What is held over tables of the types fits the code for it.
use Rattle.std.proofs.Common.{◌≡◌, ◌∙◌, ℕ, zero, suc, ◌+◌, add-one, List, [], ◌∷◌, map, length, drop, refl, sym, ap, subst, true, ◌&&◌, Option, Some, Ok, Err}
use Rattle.std.specs.Prelude.{slice_index_or}
use Rattle.std.specs.List.{AllByRecursion, AllZip, flat_map, list_all}
use Rattle.std.specs.List.Sorted.{IsStrictlySortedBy}
use Rattle.std.specs.declared.cmp.Ordering.TheVariants.{Less}
use Rattle.std.specs.Ordering.{is_lt}
use Rattle.std.proofs.lemmas.Bool.{and_from, and_parts}
use Rattle.castor_val.specs.declared.row.Row.{Row}
use Rattle.castor_val.specs.declared.table.Table.{Table}
use Rattle.castor_val.specs.declared.value.Ty.{Ty}
use Rattle.castor_val.specs.declared.value.Ty.TheVariants as ty
use Rattle.castor_val.specs.declared.value.Value.{Value}
use Rattle.castor_val.specs.declared.value.Value.TheVariants.{Int, Bool as Truth, Text}
use Rattle.castor_val.specs.Values.{no_faults, row_cmp, row_fits, union, value_fits}
use Rattle.castor_alg.specs.declared.context.Context.{Context}
use Rattle.castor_alg.specs.declared.expr.Expr.{Expr}
use Rattle.castor_alg.specs.declared.held.Entry.{Entry}
use Rattle.castor_alg.specs.declared.held.Held.{Held}
use Rattle.castor_alg.specs.declared.rel.Rel.{Rel}
use Rattle.castor_alg.specs.declared.rel.Rel as R
use Rattle.castor_alg.specs.Expression.{Answer, expr_value}
use Rattle.castor_alg.specs.Meaning.{meaning}
use Rattle.castor_alg.specs.Rows.{faults_in, union_over}
use Rattle.castor_alg.specs.Scopes.{Scopes, bind}
use Rattle.castor_alg.specs.Fits.{tables_fit}
use Rattle.castor_alg.specs.Typing.{each, extended, type_under, types_under}
use Rattle.castor_alg.proofs.RelInduction.{With, relations}
use Rattle.castor_laws.specs.Fitting.{answer_fits}
use Rattle.castor_laws.proofs.EachLaws.{Each, none, one, each_flat_map, each_map, each_weaker}
use Rattle.castor_laws.proofs.TypePartLaws.{both_parts}
use Rattle.castor_laws.proofs.ValueFitLaws.{AllFit}
use Rattle.castor_alg.specs.declared.held_out.HeldOut.{HeldOut}
use Rattle.castor_alg.specs.declared.phase.Phase.TheVariants.{Build, Run}
use Rattle.castor_alg.specs.HeldData.{entry, held_under, leaf, parted, within as inside}
use Rattle.castor_alg.specs.Stages.{Phases, Staging, bind_phase, expr_stage, in_turn, stage_under}
use Rattle.castor_stage.proofs.HoldingLaws.{holding-DepJoin, holding-List}
use Rattle.castor_stage.proofs.WalkLaws.{both_left, both_right}
use Rattle.castor_code.specs.declared.code.Code.{Code}
use Rattle.castor_code.specs.declared.code.Code as C
use Rattle.castor_code.specs.Data.{fits}
use Rattle.castor_code.specs.Directories.{ascending, key_lt}
use Rattle.castor_code.specs.LayoutMeaning.{all_in}
use Rattle.castor_code.specs.Pieces.{Piece, inner_piece, list_piece, one_after_other, parts_piece, side_by_side, within}
use Rattle.castor_code.specs.Shapes.{inner_of, leaf_of, parts_of, rows_of}
use Rattle.castor_code.proofs.ShapeLaws.{inner_of-Inner, leaf_of-Leaf, parts_of-Parts, rows_of-Rows}
use Rattle.castor_ltype.specs.Generation.{code_over, list_code, scalar_code}
use Rattle.castor_ltype.specs.Places.{children, held_or_nothing, inner, int_in, nothing, part, text_length_in}
use Rattle.castor_ltype.specs.Ranges.{least_range}
use Rattle.castor_ltype.proofs.CompletedLaws.{BuildFits, built_rows_fit, built_value_fits, fits_in_build, fits_in_run}
use Rattle.castor_ltype.proofs.FaultLaws.{has_value, none_left, none_right}
use Rattle.castor_ltype.proofs.LaidLaws.{int_write, scalar_write, scalar_written}
use Rattle.castor_ltype.proofs.GeneratorLaws.{codes_of_parts}
use Rattle.castor_ltype.proofs.PieceLaws.{piece-Dep, piece-List, writing, writing_all}
use Rattle.castor_ltype.proofs.RangeLaws.{each_both, each_unflat, each_unmap, ints_within, numbers_within}

-- a value of a type stands there
pub record Valued (t : Ty) (o : Option Value) : Type 0 where
  pub value : Value
  pub is : o ≡ Some value
  pub fit : value_fits value t ≡ true

-- values of a type fit their code
pub int_at : (zs : List _) (v : Value) → value_fits v ty.Int ≡ true → Each (λ z. (int_write zs (Some (Int z))).fits ≡ true) (int_in (Some v)) → (int_write zs (Some v)).fits ≡ true
int_at zs (Int z) fit (one first rest) = first
int_at zs (Truth b) fit all = cc
int_at zs (Text t) fit all = cc

bool_at : (values : List (Option Value)) (v : Value) → value_fits v ty.Bool ≡ true → (scalar_write (Some ty.Bool) values (Some v)).fits ≡ true
bool_at values (Int z) fit = cc
bool_at values (Truth b) fit = refl
bool_at values (Text t) fit = cc

text_at : (lengths : List ℕ) (values : List (Option Value)) (v : Value) → flat_map text_length_in values ≡ lengths → value_fits v ty.Text ≡ true → Each (λ n. within (least_range lengths) n ≡ true) (text_length_in (Some v)) → (scalar_write (Some ty.Text) values (Some v)).fits ≡ true
text_at lengths values (Int z) is fit all = cc
text_at lengths values (Truth b) is fit all = cc
text_at lengths values (Text t) is fit (one first rest) = and_from _ _ (ap (λ ns. within (least_range ns) (length t)) is ∙ first) (and_parts _ _ fit).0

int_one : (zs : List _) (o : Option Value) → Valued ty.Int o → Each (λ z. (int_write zs (Some (Int z))).fits ≡ true) (int_in o) → (int_write zs o).fits ≡ true
int_one zs o v all = ap (λ (x : Option Value). (int_write zs x).fits) v.is ∙ int_at zs v.value v.fit (subst (λ (x : Option Value). Each (λ z. (int_write zs (Some (Int z))).fits ≡ true) (int_in x)) v.is all)

text_one : (values : List (Option Value)) (o : Option Value) → Valued ty.Text o → Each (λ n. within (least_range (flat_map text_length_in values)) n ≡ true) (text_length_in o) → (scalar_write (Some ty.Text) values o).fits ≡ true
text_one values o v all =
    ap (λ (x : Option Value). (scalar_write (Some ty.Text) values x).fits) v.is
    ∙ text_at (flat_map text_length_in values) values v.value refl v.fit (subst (λ (x : Option Value). Each (λ n. within (least_range (flat_map text_length_in values)) n ≡ true) (text_length_in x)) v.is all)

abbrev pub ValueFits : Ty → List (Option Value) → Option Value → Type 0
ValueFits t values o = (scalar_write (Some t) values o).fits ≡ true

pub values_fit : (t : Ty) (values : List (Option Value)) → Each (Valued t) values → Each (ValueFits t values) values
values_fit ty.Int values all =
    let zs = flat_map int_in values in
    let Fine = λ (o : Option Value). Each (λ z. (int_write zs (Some (Int z))).fits ≡ true) (int_in o) in
    each_weaker _ (ValueFits ty.Int values) (λ o both. int_one zs o both.0 both.1) (each_both (Valued ty.Int) Fine all (each_unflat (λ z. (int_write zs (Some (Int z))).fits ≡ true) int_in values (ints_within zs)))
values_fit ty.Bool values all = each_weaker _ (ValueFits ty.Bool values) (λ o v. ap (λ (x : Option Value). (scalar_write (Some ty.Bool) values x).fits) v.is ∙ bool_at values v.value v.fit) all
values_fit ty.Text values all =
    let lengths = flat_map text_length_in values in
    let Fine = λ (o : Option Value). Each (λ n. within (least_range lengths) n ≡ true) (text_length_in o) in
    each_weaker _ (ValueFits ty.Text values) (λ o both. text_one values o both.0 both.1) (each_both (Valued ty.Text) Fine all (each_unflat (λ n. within (least_range lengths) n ≡ true) text_length_in values (numbers_within lengths)))

-- held data that stands in a place of a relation
pub record Stands (q : Rel) (scopes : Phases) (context : Context) (ts : List Table) (h : Held) : Type 0 where
  pub env : Scopes
  pub run : Scopes
  pub params : Row
  pub is : h ≡ (held_under q ts env run params).held
  pub clean : (held_under q ts env run params).faults ≡ no_faults
  pub known : BuildFits scopes context env

abbrev pub Fine : Code → Held → Type 0
Fine c h = fits c h ≡ true

abbrev pub FitsAll : Rel → Type 0
FitsAll q = (scopes : Phases) (context : Context) (ts : List Table) (columns : List Ty) (hs : List Held) → stage_under q Run scopes ≡ Ok tt → tables_fit ts context.tables ≡ true → types_under q context ≡ Some columns
    → Each (Stands q scopes context ts) hs → Each (Fine (code_over q context hs)) hs

-- a scalar
pub scalar_stands : (e : Expr) (t : Ty) (scopes : Phases) (context : Context) (ts : List Table) → expr_stage e Build scopes ≡ Ok tt → type_under e [] context ≡ Some t
    → ((env run : Scopes) (params : Row) → held_under (R.Scalar e) ts env run params ≡ leaf (expr_value e [] env params)) → ((answer : Answer) → (leaf answer).faults ≡ no_faults → faults_in answer ≡ no_faults)
    → (h : Held) → Stands (R.Scalar e) scopes context ts h → Valued t (leaf_of h)
scalar_stands e t scopes context ts staged typed holds clean h so =
    let held = holds so.env so.run so.params in
    let found = has_value e [] so.env so.params (clean (expr_value e [] so.env so.params) (sym (ap (λ (x : HeldOut). x.faults) held) ∙ so.clean)) in
    record {
      value = found.0;
      is = ap leaf_of (so.is ∙ ap (λ (x : HeldOut). x.held) held ∙ ap (λ (a : Answer). (leaf a).held) found.1) ∙ leaf_of-Leaf found.0;
      fit = sym (ap (λ (a : Answer). answer_fits a t) found.1) ∙ built_value_fits scopes context so.env so.known e t so.params staged typed;
    }

pub leaf_clean : (answer : Answer) → (leaf answer).faults ≡ no_faults → faults_in answer ≡ no_faults
leaf_clean (Ok v) clean = clean
leaf_clean (Err f) clean = clean

pub scalar_fits : (t : Ty) (hs : List Held) → Each (λ h. Valued t (leaf_of h)) hs → Each (Fine (scalar_code (Some t) (map leaf_of hs))) hs
scalar_fits t hs all =
    each_weaker _ (Fine (scalar_code (Some t) (map leaf_of hs))) (λ h fine. ap (λ (p : Piece). p.fits) (scalar_written (Some t) (map leaf_of hs) h) ∙ fine)
    (each_unmap (ValueFits t (map leaf_of hs)) leaf_of hs (values_fit t (map leaf_of hs) (each_map (Valued t) leaf_of all)))

pub fine_by : (c d : Code) (hs : List Held) → c ≡ d → Each (Fine d) hs → Each (Fine c) hs
fine_by c d hs is fine = subst (λ (e : Code). Each (Fine e) hs) (sym is) fine

-- an operator over one operand
record Holds (r : Rel) (scopes : Phases) (context : Context) (ts : List Table) (h : Held) : Type 0 where
  there : inner_of h ≡ Some (inner h)
  stands : Stands r scopes context ts (inner h)

module _ (q r : Rel) (holds : (ts : List Table) (env run : Scopes) (params : Row) → held_under q ts env run params ≡ inside (held_under r ts env run params)) (scopes : Phases) (context : Context) (ts : List Table) where
  inner_stands : (h : Held) → Stands q scopes context ts h → Holds r scopes context ts h
  inner_stands h so =
      let held = holds ts so.env so.run so.params in
      let kid = held_under r ts so.env so.run so.params in
      let found : inner_of h ≡ Some kid.held = ap inner_of (so.is ∙ ap (λ (x : HeldOut). x.held) held) ∙ inner_of-Inner kid.held in
      let same : inner h ≡ kid.held = ap (λ (o : Option Held). held_or_nothing o) found in
      record {
        there = found ∙ ap Some (sym same);
        stands = record { env = so.env; run = so.run; params = so.params; is = same; clean = sym (ap (λ (x : HeldOut). x.faults) held) ∙ so.clean; known = so.known };
      }

  pub inner_fits : (node : Code → Code) → ((c : Code) (h : Held) → writing (node c) h ≡ inner_piece (writing c) (inner_of h)) → FitsAll r → (columns : List Ty) (hs : List Held) → stage_under r Run scopes ≡ Ok tt → tables_fit ts context.tables ≡ true → types_under r context ≡ Some columns
      → Each (Stands q scopes context ts) hs → Each (Fine (node (code_over r context (map inner hs)))) hs
  inner_fits node written fit columns hs staged tables typed all =
      let kid = code_over r context (map inner hs) in
      let held = each_weaker _ (Holds r scopes context ts) inner_stands all in
      let fine = each_unmap (Fine kid) inner hs (fit scopes context ts columns (map inner hs) staged tables typed (each_map (Stands r scopes context ts) inner (each_weaker _ (λ h. Stands r scopes context ts (inner h)) (λ h x. x.stands) held))) in
      each_weaker _ (Fine (node kid)) (λ h both. ap (λ (p : Piece). p.fits) (written kid h) ∙ ap (λ (o : Option Held). (inner_piece (writing kid) o).fits) both.0.there ∙ both.1) (each_both (Holds r scopes context ts) (λ h. Fine kid (inner h)) held fine)

-- operands beside one another
abbrev AllStand : List Rel → Phases → Context → List Table → List Held → Type 0
AllStand rs scopes context ts gs = AllZip (λ r g. Stands r scopes context ts g) rs gs

all_stand : (rs : List Rel) (scopes : Phases) (context : Context) (ts : List Table) (env run : Scopes) (params : Row) → BuildFits scopes context env → union_over (λ (h : HeldOut). h.faults) (map (λ (r : Rel). held_under r ts env run params) rs) ≡ no_faults
    → AllStand rs scopes context ts (map (λ (h : HeldOut). h.held) (map (λ (r : Rel). held_under r ts env run params) rs))
all_stand [] scopes context ts env run params known clean = tt
all_stand (r ∷ rs) scopes context ts env run params known clean =
    let others = union_over (λ (h : HeldOut). h.faults) (map (λ (r : Rel). held_under r ts env run params) rs) in
    let own = (held_under r ts env run params).faults in
    (record { env = env; run = run; params = params; is = refl; clean = none_left own others clean; known = known }, all_stand rs scopes context ts env run params known (none_right own others clean))

-- the part with a number, and those behind it
record Next (R : Rel → Held → Type 0) (r : Rel) (rs : List Rel) (i : ℕ) (gs : List Held) : Type 0 where
  head : R r (slice_index_or gs i nothing)
  rest : AllZip R rs (drop (suc i) gs)
  is : drop i gs ≡ slice_index_or gs i nothing ∷ drop (suc i) gs

next_part : (R : Rel → Held → Type 0) (r : Rel) (rs : List Rel) (i : ℕ) (gs : List Held) → AllZip R (r ∷ rs) (drop i gs) → Next R r rs i gs
next_part R r rs zero [] all = absurd all
next_part R r rs zero (g ∷ gs) (first, rest) = record { head = first; rest = rest; is = refl }
next_part R r rs (suc i) [] all = absurd all
next_part R r rs (suc i) (g ∷ gs) all = let next = next_part R r rs i gs all in record { head = next.head; rest = next.rest; is = next.is }

nothing_left : (R : Rel → Held → Type 0) (gs : List Held) → AllZip R [] gs → (side_by_side [] gs).fits ≡ true
nothing_left R [] all = refl
nothing_left R (g ∷ gs) all = absurd all

abbrev parts_in : Held → List Held
parts_in h = all_in (parts_of h)

operands_fit : (rs : List (With FitsAll)) (i : ℕ) (scopes : Phases) (context : Context) (ts : List Table) (all : List (List Ty)) (hs : List Held) → in_turn (map (λ (r : Staging). r Run scopes) (map stage_under (relations rs))) ≡ Ok tt → tables_fit ts context.tables ≡ true
    → each (map (λ (r : Rel). types_under r context) (relations rs)) ≡ Some all → Each (λ h. AllStand (relations rs) scopes context ts (drop i (parts_in h))) hs
    → Each (λ h. (side_by_side (writing_all (codes_of_parts i (relations rs) context hs)) (drop i (parts_in h))).fits ≡ true) hs
operands_fit [] i scopes context ts all hs staged tables typed stand = each_weaker _ _ (λ h zipped. nothing_left (λ r g. Stands r scopes context ts g) (drop i (parts_in h)) zipped) stand
operands_fit (r ∷ rs) i scopes context ts all hs staged tables typed stand =
    let R = λ (r : Rel) (g : Held). Stands r scopes context ts g in
    let parts = both_parts (λ t ts. t ∷ ts) (types_under r.0 context) (each (map (λ (r : Rel). types_under r context) (relations rs))) all typed in
    let nexts = each_weaker _ (λ h. Next R r.0 (relations rs) i (parts_in h)) (λ h zipped. next_part R r.0 (relations rs) i (parts_in h) zipped) stand in
    let kid = code_over r.0 context (map (part i) hs) in
    let first = each_unmap (Fine kid) (part i) hs (r.1 scopes context ts parts.0 (map (part i) hs) (both_left _ _ staged) tables parts.2 (each_map (Stands r.0 scopes context ts) (part i) (each_weaker _ (λ h. Stands r.0 scopes context ts (part i h)) (λ h next. next.head) nexts))) in
    let behind = each_weaker _ (λ h. AllStand (relations rs) scopes context ts (drop (i + 1) (parts_in h))) (λ h next. subst (λ j. AllStand (relations rs) scopes context ts (drop j (parts_in h))) (sym (add-one i)) next.rest) nexts in
    let ws = writing_all (codes_of_parts (i + 1) (relations rs) context hs) in
    let rest = operands_fit rs (i + 1) scopes context ts parts.1 hs (both_right _ _ staged) tables parts.3 behind in
    let Both = λ (h : Held). Fine kid (part i h) × ((side_by_side ws (drop (i + 1) (parts_in h))).fits ≡ true) in
    each_weaker _ _ (λ h both. ap (λ xs. (side_by_side (writing kid ∷ ws) xs).fits) both.0.is ∙ and_from _ _ both.1.0 (subst (λ j. (side_by_side ws (drop j (parts_in h))).fits ≡ true) (add-one i) both.1.1))
    (each_both (λ h. Next R r.0 (relations rs) i (parts_in h)) Both nexts (each_both (λ h. Fine kid (part i h)) (λ h. (side_by_side ws (drop (i + 1) (parts_in h))).fits ≡ true) first rest))

record Parted (rs : List Rel) (scopes : Phases) (context : Context) (ts : List Table) (h : Held) : Type 0 where
  there : parts_of h ≡ Some (parts_in h)
  stand : AllStand rs scopes context ts (parts_in h)

parted_stands : (q : Rel) (rs : List Rel) → ((ts : List Table) (env run : Scopes) (params : Row) → held_under q ts env run params ≡ parted (map (λ (r : Rel). held_under r ts env run params) rs)) → (scopes : Phases) (context : Context) (ts : List Table) (h : Held)
    → Stands q scopes context ts h → Parted rs scopes context ts h
parted_stands q rs holds scopes context ts h so =
    let held = holds ts so.env so.run so.params in
    let gs = map (λ (x : HeldOut). x.held) (map (λ (r : Rel). held_under r ts so.env so.run so.params) rs) in
    let found : parts_of h ≡ Some gs = ap parts_of (so.is ∙ ap (λ (x : HeldOut). x.held) held) ∙ parts_of-Parts gs in
    let same : parts_in h ≡ gs = ap (λ (o : Option (List Held)). all_in o) found in
    record {
      there = found ∙ ap Some (sym same);
      stand = subst (λ (xs : List Held). AllStand rs scopes context ts xs) (sym same) (all_stand rs scopes context ts so.env so.run so.params so.known (sym (ap (λ (x : HeldOut). x.faults) held) ∙ so.clean));
    }

pub parts_fit : (node : List Code → Code) → ((cs : List Code) (h : Held) → writing (node cs) h ≡ parts_piece (writing_all cs) (parts_of h)) → (q : Rel) (rs : List (With FitsAll)) → ((ts : List Table) (env run : Scopes) (params : Row) → held_under q ts env run params ≡ parted (map (λ (r : Rel). held_under r ts env run params) (relations rs)))
    → (scopes : Phases) (context : Context) (ts : List Table) (all : List (List Ty)) (hs : List Held) → in_turn (map (λ (r : Staging). r Run scopes) (map stage_under (relations rs))) ≡ Ok tt → tables_fit ts context.tables ≡ true
    → each (map (λ (r : Rel). types_under r context) (relations rs)) ≡ Some all → Each (Stands q scopes context ts) hs → Each (Fine (node (codes_of_parts 0 (relations rs) context hs))) hs
parts_fit node written q rs holds scopes context ts all hs staged tables typed stand =
    let cs = codes_of_parts 0 (relations rs) context hs in
    let parts = each_weaker _ (Parted (relations rs) scopes context ts) (parted_stands q (relations rs) holds scopes context ts) stand in
    let fine = operands_fit rs 0 scopes context ts all hs staged tables typed (each_weaker _ _ (λ h x. x.stand) parts) in
    each_weaker _ (Fine (node cs)) (λ h both. ap (λ (p : Piece). p.fits) (written cs h) ∙ ap (λ (o : Option (List Held)). (parts_piece (writing_all cs) o).fits) both.0.there ∙ both.1)
    (each_both (Parted (relations rs) scopes context ts) (λ h. (side_by_side (writing_all cs) (parts_in h)).fits ≡ true) parts fine)

-- a dependent join: its second part stands in the body
record Paired (r s : Rel) (scopes : Phases) (context : Context) (k : ℕ) (columns : List Ty) (ts : List Table) (h : Held) : Type 0 where
  there : parts_of h ≡ Some (part 0 h ∷ part 1 h ∷ [])
  first : Stands r scopes context ts (part 0 h)
  second : Stands s (bind_phase scopes k Run) (extended context k columns) ts (part 1 h)

paired_stands : (k : ℕ) (r s : Rel) (scopes : Phases) (context : Context) (columns : List Ty) (ts : List Table) (h : Held) → Stands (R.DepJoin k r s) scopes context ts h → Paired r s scopes context k columns ts h
paired_stands k r s scopes context columns ts h so =
    let held = holding-DepJoin ts so.env so.run so.params k r s in
    let one = held_under r ts so.env so.run so.params in
    let two = held_under s ts (bind so.env k (so.run k)) so.run so.params in
    let found : parts_of h ≡ Some (one.held ∷ two.held ∷ []) = ap parts_of (so.is ∙ ap (λ (x : HeldOut). x.held) held) ∙ parts_of-Parts (one.held ∷ two.held ∷ []) in
    let first_is : part 0 h ≡ one.held = ap (λ (o : Option (List Held)). slice_index_or (all_in o) 0 nothing) found in
    let second_is : part 1 h ≡ two.held = ap (λ (o : Option (List Held)). slice_index_or (all_in o) 1 nothing) found in
    let clean = sym (ap (λ (x : HeldOut). x.faults) held) ∙ so.clean in
    let behind = none_right one.faults (union two.faults no_faults) clean in
    record {
      there = found ∙ (λ i. Some (sym first_is i ∷ sym second_is i ∷ []));
      first = record { env = so.env; run = so.run; params = so.params; is = first_is; clean = none_left one.faults (union two.faults no_faults) clean; known = so.known };
      second = record { env = bind so.env k (so.run k); run = so.run; params = so.params; is = second_is; clean = none_left two.faults no_faults behind; known = fits_in_run scopes context so.env so.known k columns (so.run k) };
    }

pub depjoin_fits : (k : ℕ) (r s : Rel) → FitsAll r → FitsAll s → (scopes : Phases) (context : Context) (ts : List Table) (columns types : List Ty) (hs : List Held) → stage_under r Run scopes ≡ Ok tt → stage_under s Run (bind_phase scopes k Run) ≡ Ok tt → tables_fit ts context.tables ≡ true
    → types_under r context ≡ Some columns → types_under s (extended context k columns) ≡ Some types → Each (Stands (R.DepJoin k r s) scopes context ts) hs → Each (Fine (C.Dep k (code_over r context (map (part 0) hs)) (code_over s (extended context k columns) (map (part 1) hs)))) hs
depjoin_fits k r s x y scopes context ts columns types hs staged staged_body tables source body all =
    let c = code_over r context (map (part 0) hs) in
    let d = code_over s (extended context k columns) (map (part 1) hs) in
    let pairs = each_weaker _ (Paired r s scopes context k columns ts) (paired_stands k r s scopes context columns ts) all in
    let first = each_unmap (Fine c) (part 0) hs (x scopes context ts columns (map (part 0) hs) staged tables source (each_map (Stands r scopes context ts) (part 0) (each_weaker _ (λ h. Stands r scopes context ts (part 0 h)) (λ h p. p.first) pairs))) in
    let second = each_unmap (Fine d) (part 1) hs (y (bind_phase scopes k Run) (extended context k columns) ts types (map (part 1) hs) staged_body tables body (each_map (Stands s (bind_phase scopes k Run) (extended context k columns) ts) (part 1) (each_weaker _ (λ h. Stands s (bind_phase scopes k Run) (extended context k columns) ts (part 1 h)) (λ h p. p.second) pairs))) in
    let Both = λ (h : Held). Fine c (part 0 h) × Fine d (part 1 h) in
    each_weaker _ (Fine (C.Dep k c d)) (λ h both. ap (λ (p : Piece). p.fits) (piece-Dep h k c d) ∙ ap (λ (o : Option (List Held)). (parts_piece (writing_all (c ∷ d ∷ [])) o).fits) both.0.there ∙ and_from _ _ both.1.0 (and_from _ _ both.1.1 refl))
    (each_both (Paired r s scopes context k columns ts) Both pairs (each_both (λ h. Fine c (part 0 h)) (λ h. Fine d (part 1 h)) first second))

-- what stands one after the other fits, where each does
pub along_fits : {X : Type 0} (write : X → Piece) {xs : List X} → Each (λ x. (write x).fits ≡ true) xs → (one_after_other write xs).fits ≡ true
along_fits write none = refl
along_fits write (one first rest) = and_from _ _ first (along_fits write rest)

pub numbers_of : {X : Type 0} (f : X → ℕ) (xs : List X) → Each (λ x. within (least_range (map f xs)) (f x) ≡ true) xs
numbers_of f xs = each_unmap (λ n. within (least_range (map f xs)) n ≡ true) f xs (numbers_within (map f xs))

-- the children of a list, under rows that are known at build
module _ (s : Rel) (scopes : Phases) (context : Context) (k : ℕ) (columns : List Ty) (ts : List Table) where
  abbrev pub Child : Held → Type 0
  Child g = Stands s (bind_phase scopes k Build) (extended context k columns) ts g

  abbrev pub EntryStands : Entry → Type 0
  EntryStands e = (row_fits e.key columns ≡ true) × Child e.kid

  module _ (env run : Scopes) (params : Row) (known : BuildFits scopes context env) where
    abbrev hold : Row → HeldOut
    hold a = held_under s ts (bind env k a) run params

    child_stands : (a : Row) → row_fits a columns ≡ true → (hold a).faults ≡ no_faults → Child (hold a).held
    child_stands a fit clean = record { env = bind env k a; run = run; params = params; is = refl; clean = clean; known = fits_in_build scopes context env known k columns a fit }

    rows_stand : {rows : List Row} → AllFit columns rows → union_over (λ a. (hold a).faults) rows ≡ no_faults → Each Child (map (λ a. (hold a).held) rows)
    rows_stand none clean = none
    rows_stand (one {x = a} {xs = rows} fit rest) clean =
        let others = union_over (λ b. (hold b).faults) rows in
        one (child_stands a fit (none_left (hold a).faults others clean)) (rows_stand rest (none_right (hold a).faults others clean))

    -- the entries of an index
    pub entries_stand : {rows : List Row} → AllFit columns rows → union_over (λ a. (hold a).faults) rows ≡ no_faults → Each EntryStands (map (entry hold) rows)
    entries_stand none clean = none
    entries_stand (one {x = a} {xs = rows} fit rest) clean =
        let others = union_over (λ b. (hold b).faults) rows in
        one (fit, child_stands a fit (none_left (hold a).faults others clean)) (entries_stand rest (none_right (hold a).faults others clean))

-- keys that ascend
keys_below : (hold : Row → HeldOut) (a : Row) (bs : List Row) → AllByRecursion (λ b. row_cmp a b ≡ Less) bs → list_all (key_lt (entry hold a)) (map (entry hold) bs) ≡ true
keys_below hold a [] u = refl
keys_below hold a (b ∷ bs) u = (λ i. is_lt (u.0 i) && keys_below hold a bs u.1 i)

pub keys_ascend : (hold : Row → HeldOut) (keys : List Row) → IsStrictlySortedBy row_cmp keys → ascending (map (entry hold) keys) ≡ true
unfolding IsStrictlySortedBy
keys_ascend hold [] s = refl
keys_ascend hold (a ∷ keys) s = (λ i. keys_below hold a keys s.0 i && keys_ascend hold keys s.1 i)

record Listed (s : Rel) (scopes : Phases) (context : Context) (k : ℕ) (columns : List Ty) (ts : List Table) (h : Held) : Type 0 where
  there : rows_of h ≡ Some (children h)
  stand : Each (Child s scopes context k columns ts) (children h)

listed_stands : (k : ℕ) (r s : Rel) (scopes : Phases) (context : Context) (columns : List Ty) (ts : List Table) → stage_under r Build scopes ≡ Ok tt → types_under r context ≡ Some columns → tables_fit ts context.tables ≡ true → (h : Held) → Stands (R.List k r s) scopes context ts h → Listed s scopes context k columns ts h
listed_stands k r s scopes context columns ts staged typed tables h so =
    let held = holding-List ts so.env so.run so.params k r s in
    let source = meaning r ts so.env so.params in
    let hold = λ (a : Row). held_under s ts (bind so.env k a) so.run so.params in
    let gs = map (λ a. (hold a).held) source.rows in
    let found : rows_of h ≡ Some gs = ap rows_of (so.is ∙ ap (λ (x : HeldOut). x.held) held) ∙ rows_of-Rows gs in
    let same : children h ≡ gs = ap (λ (o : Option (List Held)). all_in o) found in
    let clean = none_right source.faults (union_over (λ a. (hold a).faults) source.rows) (sym (ap (λ (x : HeldOut). x.faults) held) ∙ so.clean) in
    record {
      there = found ∙ ap Some (sym same);
      stand = subst (λ (xs : List Held). Each (Child s scopes context k columns ts) xs) (sym same) (rows_stand s scopes context k columns ts so.env so.run so.params so.known (built_rows_fit scopes context so.env so.known r columns ts so.params staged typed tables) clean);
    }

pub list_fits : (k : ℕ) (r s : Rel) → FitsAll s → (scopes : Phases) (context : Context) (ts : List Table) (columns types : List Ty) (hs : List Held) → stage_under r Build scopes ≡ Ok tt → stage_under s Run (bind_phase scopes k Build) ≡ Ok tt → tables_fit ts context.tables ≡ true
    → types_under r context ≡ Some columns → types_under s (extended context k columns) ≡ Some types → Each (Stands (R.List k r s) scopes context ts) hs → Each (Fine (list_code (code_over s (extended context k columns)) hs)) hs
list_fits k r s y scopes context ts columns types hs staged staged_body tables source body all =
    let kid = code_over s (extended context k columns) (flat_map children hs) in
    let count = least_range (map (λ h. length (children h)) hs) in
    let bytes = λ (h : Held). length (one_after_other (writing kid) (children h)).bytes in
    let lists = each_weaker _ (Listed s scopes context k columns ts) (listed_stands k r s scopes context columns ts staged source tables) all in
    let fine = each_unflat (Fine kid) children hs (y (bind_phase scopes k Build) (extended context k columns) ts types (flat_map children hs) staged_body tables body (each_flat_map (Child s scopes context k columns ts) children (each_weaker _ (λ h. Each (Child s scopes context k columns ts) (children h)) (λ h l. l.stand) lists))) in
    let Ranges = λ (h : Held). (within count (length (children h)) ≡ true) × (within (least_range (map bytes hs)) (bytes h) ≡ true) in
    let ranges = each_both (λ h. within count (length (children h)) ≡ true) (λ h. within (least_range (map bytes hs)) (bytes h) ≡ true) (numbers_of (λ h. length (children h)) hs) (numbers_of bytes hs) in
    let Rest = λ (h : Held). Each (Fine kid) (children h) × Ranges h in
    each_weaker _ (Fine (C.List count (least_range (map bytes hs)) kid))
    (λ h both. ap (λ (p : Piece). p.fits) (piece-List h count (least_range (map bytes hs)) kid) ∙ ap (λ (o : Option (List Held)). (list_piece count (least_range (map bytes hs)) (writing kid) o).fits) both.0.there
    ∙ and_from _ _ both.1.1.0 (and_from _ _ both.1.1.1 (along_fits (writing kid) both.1.0)))
    (each_both (Listed s scopes context k columns ts) Rest lists (each_both (λ h. Each (Fine kid) (children h)) Ranges fine ranges))
