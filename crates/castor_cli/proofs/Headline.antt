-- That an image that is built means its query.
use Rattle.std.proofs.Common.{◌≡◌, ◌∙◌, ℕ, ◌+◌, List, [], ◌∷◌, map, Bool, true, false, if◌then◌else◌, Option, Some, None, IsSome, Result, Ok, Err, refl, ap, subst}
use Rattle.std.specs.Prelude.{nat_lt}
use Rattle.std.proofs.lemmas.Bool.{and_from}
use Rattle.castor_base.specs.Files.{Files}
use Rattle.castor_val.specs.Limits.{most_file_bytes}
use Rattle.castor_val.specs.declared.row.Row.{Row}
use Rattle.castor_val.specs.declared.table.Table.{Table}
use Rattle.castor_val.specs.Values.{row_fits, table_fits}
use Rattle.castor_alg.specs.declared.held.Held.{Held}
use Rattle.castor_alg.specs.declared.rel.Rel.{Rel}
use Rattle.castor_alg.specs.Fits.{tables_fit}
use Rattle.castor_alg.specs.Meaning.{meaning}
use Rattle.castor_alg.specs.Scopes.{unbound}
use Rattle.castor_alg.specs.Typing.{Typed, column_types}
use Rattle.castor_code.specs.LayoutMeaning.{layout_meaning}
use Rattle.castor_image.specs.Images.{Content}
use Rattle.castor_load.specs.declared.error.LoadError.{LoadError}
use Rattle.castor_load.specs.Rows.{table_of}
use Rattle.castor_load.proofs.Fits.{table_of-fits}
use Rattle.castor_ltype.proofs.MeaningLaws.{code_means}
use Rattle.castor_schema.specs.declared.checked.Checked.{Checked}
use Rattle.castor_names.specs.declared.table.Declared.{Declared}
use Rattle.castor_val.specs.Columns.{types_of}
use Rattle.castor_schema.specs.WellTyped.{query_context}
use Rattle.castor_script.specs.declared.step_error.StepError.{StepError}
use Rattle.castor_script.specs.Finish.{finish_of}
use Rattle.castor_script.proofs.FinishLaws.{finish_means}
use Rattle.castor_cli.specs.declared.status.BuildFault.TheVariants as build
use Rattle.castor_cli.specs.declared.status.Status.TheVariants as status
use Rattle.castor_cli.specs.After.{after}
use Rattle.castor_cli.specs.Building.{built_last, content_of, held_last, if_finished, if_small, image_size}
use Rattle.castor_cli.specs.Headline.{ImagesMeanTheirQueries}
use Rattle.castor_cli.specs.Preparation.{if_loaded, later_fails, first_fails, script_in, table_in, tables_behind, tables_in}
use Rattle.castor_cli.specs.Sound.{TablesFit}
use Rattle.castor_cli.proofs.HeldLaws.{IsHeld, held_in, through}

-- ---- the tables

loaded : (i : ℕ) (r : Result Table LoadError) (t : Table) → if_loaded i r ≡ Ok t → r ≡ Ok t
loaded i (Ok u) t is = let same : u ≡ t = cc is in ap (λ (v : Table). Ok v) same
loaded i (Err why) t is = absurd (cc is)

table_fits_in : (fails : Bool) (files : Files) (i : ℕ) (d : Declared) (t : Table) → table_in fails files i d ≡ Ok t → table_fits t (types_of d.columns) ≡ true
table_fits_in fails files i d t is =
    let read = through _ (λ bytes. if_loaded i (table_of d.columns bytes)) t is in
    table_of-fits d.columns _ t (loaded i (table_of d.columns read.first) t read.rest)

tables_fit_in : (failing : Option ℕ) (files : Files) (i : ℕ) (ds : List Declared) (ts : List Table) → tables_in failing files i ds ≡ Ok ts → tables_fit ts (map (λ (d : Declared). types_of d.columns) ds) ≡ true
tables_fit_in failing files i [] ts is = let none : [] ≡ ts = cc is in subst (λ (us : List Table). tables_fit us [] ≡ true) none refl
tables_fit_in failing files i (d ∷ ds) ts is =
    let one = through (table_in (first_fails failing) files i d) (λ t. after (tables_in (later_fails failing) files (i + 1) ds) (λ us. Ok (t ∷ us))) ts is in
    let more = through (tables_in (later_fails failing) files (i + 1) ds) (λ us. Ok (one.first ∷ us)) ts one.rest in
    let all : (one.first ∷ more.first) ≡ ts = cc more.rest in
    subst (λ (us : List Table). tables_fit us (map (λ (e : Declared). types_of e.columns) (d ∷ ds)) ≡ true) all
    (and_from _ _ (table_fits_in (first_fails failing) files i d one.first one.is) (tables_fit_in (later_fails failing) files (i + 1) ds more.first more.is))

tables_have_types : (files : Files) (script : List ℕ) (c : Checked) (ts : List Table) → tables_behind None files script c ≡ Ok ts → TablesFit c ts
tables_have_types files script c ts is =
    let read = through (script_in false files script) (λ done. tables_in None files 0 c.tables) ts is in
    tables_fit_in None files 0 c.tables ts read.rest

-- ---- the image

finished_is : (r : Result Rel StepError) (q : Rel) → if_finished r ≡ Ok q → r ≡ Ok q
finished_is (Ok p) q is = let same : p ≡ q = cc is in ap (λ (x : Rel). Ok x) same
finished_is (Err why) q is = absurd (cc is)

small_is : (large : Bool) (x y : Content) → (if large then Err (status.Build build.TooLarge) else Ok x) ≡ Ok y → x ≡ y
small_is true x y is = absurd (cc is)
small_is false x y is = cc is

is_some_of : {A : Type 0} (o : Option A) (a : A) → o ≡ Some a → IsSome o
is_some_of (Some b) a is = refl
is_some_of None a is = absurd (cc is)

means : (c : Checked) (tables : List Table) (final : Rel) (held : Held) (values : Row) → Typed c.query (query_context c) → TablesFit c tables → finish_of (query_context c).tables c.query ≡ Ok final → IsHeld final tables held
    → row_fits values (types_of c.params) ≡ true → layout_meaning (content_of c final held).code held unbound values ≡ meaning c.query tables unbound values
means c tables final held values typed fit finished h fine =
    let same = finish_means c.query final (query_context c) typed finished in
    code_means final (query_context c) held h.staged tables h.data_is values
    ∙ same.same_meaning tables unbound values (record { tables_have_types = fit; scopes_have_types = λ k types none. absurd (cc none); params_have_types = fine })

-- an image that is built means its query
pub images_mean : ImagesMeanTheirQueries
images_mean files query script c tables x b values fine =
    let made = through (if_finished (finish_of (query_context c).tables c.query)) (built_last c tables) x b.image_is in
    let held = through (held_last c.query tables made.first) (λ h. if_small (content_of c made.first h)) x made.rest in
    let same = small_is (nat_lt most_file_bytes (image_size (content_of c made.first held.first))) (content_of c made.first held.first) x held.rest in
    let typed = is_some_of (column_types c.query (query_context c)) (types_of c.columns) b.sound.typed in
    subst (λ (y : Content). layout_meaning y.code y.held unbound values ≡ meaning c.query tables unbound values) same
    (means c tables made.first held.first values typed (tables_have_types files script c tables b.tables_are) (finished_is _ made.first made.is) (held_in c.query tables made.first held.first held.is) fine)
