-- Parts by their numbers.
use Rattle.std.proofs.Common.{◌≡◌, ◌∙◌, ℕ, zero, suc, List, [], ◌∷◌, slice_get, refl, sym, ap, Option, Some, None}
use Rattle.std.specs.Prelude.{slice_index_or}
use Rattle.castor_alg.specs.declared.held.Held.{Held, Parts}
use Rattle.castor_code.specs.LayoutMeaning.{all_in}
use Rattle.castor_code.proofs.ShapeLaws.{parts_of-Parts}
use Rattle.castor_ltype.specs.Places.{nothing, part}

there_at : (hs : List Held) (i : ℕ) (g : Held) → slice_get hs i ≡ Some g → g ≡ slice_index_or hs i nothing
there_at [] i g is = cc
there_at (h ∷ hs) zero g is = cc
there_at (h ∷ hs) (suc i) g is = there_at hs i g is

missing_at : (hs : List Held) (i : ℕ) → slice_get hs i ≡ None → nothing ≡ slice_index_or hs i nothing
missing_at [] i is = refl
missing_at (h ∷ hs) zero is = cc
missing_at (h ∷ hs) (suc i) is = missing_at hs i is

part_of-Parts : (i : ℕ) (hs : List Held) → part i (Parts hs) ≡ slice_index_or hs i nothing
part_of-Parts i hs = ap (λ (o : Option (List Held)). slice_index_or (all_in o) i nothing) (parts_of-Parts hs)

pub part_there : (i : ℕ) (h : Held) (hs : List Held) (g : Held) → h ≡ Parts hs → slice_get hs i ≡ Some g → g ≡ part i h
part_there i h hs g is at = there_at hs i g at ∙ sym (ap (part i) is ∙ part_of-Parts i hs)

pub part_missing : (i : ℕ) (h : Held) (hs : List Held) (g : Held) → h ≡ Parts hs → g ≡ nothing → slice_get hs i ≡ None → g ≡ part i h
part_missing i h hs g is none at = none ∙ missing_at hs i at ∙ sym (ap (part i) is ∙ part_of-Parts i hs)
