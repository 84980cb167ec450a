-- Equivalence under replacement at a place.
use Rattle.std.specs.Prelude.{◌≡◌, ℕ, List, Some}
use Rattle.castor_alg.specs.declared.context.Context.{Context}
use Rattle.castor_alg.specs.declared.rel.Rel.{Rel}
use Rattle.castor_alg.specs.Equivalence.{Equivalent}
use Rattle.castor_alg.specs.Places.{at_path, context_at, replaced}
use Rattle.castor_alg.specs.Typing.{Typed}

-- where the relation is well typed, each place in it has a context, and what stands there is well typed under it
abbrev pub TypedAt : List ℕ → Rel → Context → Type 0
TypedAt path q context = Typed q context → (r : Rel) → at_path path q ≡ Some r → (inner : Context) × (context_at path q context ≡ Some inner) × Typed r inner

-- where the relation is well typed, replacing what is at the path by what is equivalent in that place gives an equivalent one
abbrev pub ReplacementKeeps : List ℕ → Rel → Rel → Context → Type 0
ReplacementKeeps path new q context = Typed q context → (r : Rel) (inner : Context) → at_path path q ≡ Some r → context_at path q context ≡ Some inner → Equivalent inner r new → Equivalent context q (replaced path new q)
