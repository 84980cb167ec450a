-- The context of what is declared and the scopes in force.
use Rattle.std.proofs.Common.{◌≡◌, ◌∙◌, ℕ, ◌<◌, ◌≤◌, ◌==◌, refl, sym, ap, subst, arith, List, [], ◌∷◌, ◌++◌, map, find, Bool, true, false, Option, Some, None, if◌then◌else◌}
use Rattle.std.specs.Str.{bytes_eq}
use Rattle.std.proofs.lemmas.Bool.{eq-eqb, ne_eqb}
use Rattle.castor_val.specs.declared.column.Column.{Column}
use Rattle.castor_val.specs.declared.value.Ty.{Ty}
use Rattle.castor_alg.specs.declared.context.Context.{Context}
use Rattle.castor_alg.specs.Typing.{extended, scope_types}
use Rattle.castor_alg.proofs.TypingLaws.{scope_types-append}
use Rattle.castor_names.specs.Names.{types_of}
use Rattle.castor_names.specs.Scopes.{innermost}
use Rattle.castor_names.specs.declared.table.Declared.{Declared}
use Rattle.castor_names.specs.declared.declarations.Declarations.{Declarations}
use Rattle.castor_names.specs.declared.scopes.Scope.{Scope}

-- the scopes with their types, the innermost last
abbrev pub entries : List Scope → List (ℕ × List Ty)
entries [] = []
entries (s ∷ outer) = entries outer ++ (s.number, types_of s.columns) ∷ []

abbrev pub table_types : Declared → List Ty
table_types t = map (λ (c : Column). c.ty) t.columns

abbrev pub context_in : Declarations → List Scope → Context
context_in known scopes = record { tables = map table_types known.tables; scopes = entries scopes; params = map (λ (p : Column). p.ty) known.params }

-- each scope in force has a lesser number than those inside of it, and than the next binder
abbrev pub InForce : ℕ → List Scope → Type 0
InForce next [] = Unit {0}
InForce next (s ∷ outer) = (s.number < next) × InForce s.number outer

pub in_force-more : (next more : ℕ) (scopes : List Scope) → next ≤ more → InForce next scopes → InForce more scopes
in_force-more next more [] le f = tt
in_force-more next more (s ∷ outer) le f = (let lt = f.0 in omega arith, f.1)

-- the scope of a name is this one, or one outside of it
lesser_by : (o s : Scope) (rest : Option Scope) (next : ℕ) (b : Bool) → o.number < next → (rest ≡ Some s → s.number < o.number) → (if b then Some o else rest) ≡ Some s → s.number < next
lesser_by o s rest next true lt outer is = let e : o ≡ s = cc in subst (λ (z : Scope). z.number < next) e lt
lesser_by o s rest next false lt outer is = let less = outer is in omega arith

lesser : (next : ℕ) (scopes : List Scope) (name : List ℕ) (s : Scope) → InForce next scopes → innermost scopes name ≡ Some s → s.number < next
lesser next [] name s f is = absurd cc
lesser next (o ∷ outer) name s f is = lesser_by o s (innermost outer name) next (bytes_eq o.name name) f.0 (λ found. lesser o.number outer name s f.1 found) is

abbrev passed_by : Scope → Scope → Option (List Ty) → Option (List Ty)
passed_by o s others = if o.number == s.number then Some (types_of o.columns) else others

types_by : (o s : Scope) (rest : Option Scope) (others : Option (List Ty)) (b : Bool) → (rest ≡ Some s → s.number < o.number) → (rest ≡ Some s → others ≡ Some (types_of s.columns))
    → (if b then Some o else rest) ≡ Some s → passed_by o s others ≡ Some (types_of s.columns)
types_by o s rest others true less outer is =
    let e : o ≡ s = cc in
    ap (λ (b : Bool). if b then Some (types_of o.columns) else others) (eq-eqb o.number s.number (ap (λ (z : Scope). z.number) e))
    ∙ ap (λ (z : Scope). Some (types_of z.columns)) e
types_by o s rest others false less outer is =
    let lt = less is in
    ap (λ (b : Bool). if b then Some (types_of o.columns) else others) (ne_eqb o.number s.number (λ e. omega arith))
    ∙ outer is

-- the types of a scope are those of the one in force that has its number
pub scope_types-innermost : (next : ℕ) (scopes : List Scope) (name : List ℕ) (s : Scope) → InForce next scopes → innermost scopes name ≡ Some s → scope_types (entries scopes) s.number ≡ Some (types_of s.columns)
scope_types-innermost next [] name s f is = absurd cc
scope_types-innermost next (o ∷ outer) name s f is =
    scope_types-append (entries outer) (o.number, types_of o.columns) s.number
    ∙ types_by o s (innermost outer name) (scope_types (entries outer) s.number) (bytes_eq o.name name)
    (λ found. lesser o.number outer name s f.1 found)
    (λ found. scope_types-innermost o.number outer name s f.1 found) is
