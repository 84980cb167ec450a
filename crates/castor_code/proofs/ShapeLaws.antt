-- Held data is known by its shape.
use Rattle.std.proofs.Common.{◌≡◌, ◌∙◌, List, [], ◌∷◌, map, ap, sym, refl, Some}
use Rattle.std.proofs.lemmas.Option.{same_Some, none-some}
use Rattle.castor_val.specs.declared.value.Value.{Value}
use Rattle.castor_alg.specs.declared.held.Entry.{Entry}
use Rattle.castor_alg.specs.declared.held.Held.{Held, Leaf, Parts, Rows, Keyed, Inner, roll-Held, out-Held, roll-out-Held, out-roll-Held}
use Rattle.castor_alg.specs.declared.held.Held.TheVariants.{rolls-Leaf, rolls-Parts, rolls-Rows, rolls-Keyed, rolls-Inner}
use Rattle.castor_alg.specs.declared.held.Held.TheOpen as F
use Rattle.castor_code.specs.Shapes.{Layer, leaf_in, parts_in, rows_in, keyed_in, inner_in, leaf_of, parts_of, rows_of, keyed_of, inner_of}
use Rattle.castor_code.specs.Readings.{value_in}

pub leaf_of-Leaf : (v : Value) → leaf_of (Leaf v) ≡ Some v
leaf_of-Leaf v = ap leaf_of (sym (rolls-Leaf v)) ∙ ap leaf_in (out-roll-Held (F.Leaf v))

pub parts_of-Parts : (hs : List Held) → parts_of (Parts hs) ≡ Some hs
parts_of-Parts hs = ap parts_of (sym (rolls-Parts hs)) ∙ ap parts_in (out-roll-Held (F.Parts hs))

pub rows_of-Rows : (hs : List Held) → rows_of (Rows hs) ≡ Some hs
rows_of-Rows hs = ap rows_of (sym (rolls-Rows hs)) ∙ ap rows_in (out-roll-Held (F.Rows hs))

pub keyed_of-Keyed : (es : List Entry) → keyed_of (Keyed es) ≡ Some es
keyed_of-Keyed es = ap keyed_of (sym (rolls-Keyed es)) ∙ ap keyed_in (out-roll-Held (F.Keyed es))

pub inner_of-Inner : (h : Held) → inner_of (Inner h) ≡ Some h
inner_of-Inner h = ap inner_of (sym (rolls-Inner h)) ∙ ap inner_in (out-roll-Held (F.Inner h))

leaf_layer : (y : Layer) (v : Value) → leaf_in y ≡ Some v → roll-Held y ≡ Leaf v
leaf_layer (F.Leaf w) v is = rolls-Leaf w ∙ ap Leaf (same_Some w v is)
leaf_layer (F.Parts hs) v is = absurd (none-some v is)
leaf_layer (F.Rows hs) v is = absurd (none-some v is)
leaf_layer (F.Keyed es) v is = absurd (none-some v is)
leaf_layer (F.Inner h) v is = absurd (none-some v is)

pub is_leaf : (h : Held) (v : Value) → leaf_of h ≡ Some v → h ≡ Leaf v
is_leaf h v is = sym (roll-out-Held h) ∙ leaf_layer (out-Held h) v is

parts_layer : (y : Layer) (hs : List Held) → parts_in y ≡ Some hs → roll-Held y ≡ Parts hs
parts_layer (F.Leaf w) hs is = absurd (none-some hs is)
parts_layer (F.Parts gs) hs is = rolls-Parts gs ∙ ap Parts (same_Some gs hs is)
parts_layer (F.Rows gs) hs is = absurd (none-some hs is)
parts_layer (F.Keyed es) hs is = absurd (none-some hs is)
parts_layer (F.Inner h) hs is = absurd (none-some hs is)

pub are_parts : (h : Held) (hs : List Held) → parts_of h ≡ Some hs → h ≡ Parts hs
are_parts h hs is = sym (roll-out-Held h) ∙ parts_layer (out-Held h) hs is

rows_layer : (y : Layer) (hs : List Held) → rows_in y ≡ Some hs → roll-Held y ≡ Rows hs
rows_layer (F.Leaf w) hs is = absurd (none-some hs is)
rows_layer (F.Parts gs) hs is = absurd (none-some hs is)
rows_layer (F.Rows gs) hs is = rolls-Rows gs ∙ ap Rows (same_Some gs hs is)
rows_layer (F.Keyed es) hs is = absurd (none-some hs is)
rows_layer (F.Inner h) hs is = absurd (none-some hs is)

pub are_rows : (h : Held) (hs : List Held) → rows_of h ≡ Some hs → h ≡ Rows hs
are_rows h hs is = sym (roll-out-Held h) ∙ rows_layer (out-Held h) hs is

keyed_layer : (y : Layer) (es : List Entry) → keyed_in y ≡ Some es → roll-Held y ≡ Keyed es
keyed_layer (F.Leaf w) es is = absurd (none-some es is)
keyed_layer (F.Parts gs) es is = absurd (none-some es is)
keyed_layer (F.Rows gs) es is = absurd (none-some es is)
keyed_layer (F.Keyed fs) es is = rolls-Keyed fs ∙ ap Keyed (same_Some fs es is)
keyed_layer (F.Inner h) es is = absurd (none-some es is)

pub is_keyed : (h : Held) (es : List Entry) → keyed_of h ≡ Some es → h ≡ Keyed es
is_keyed h es is = sym (roll-out-Held h) ∙ keyed_layer (out-Held h) es is

inner_layer : (y : Layer) (g : Held) → inner_in y ≡ Some g → roll-Held y ≡ Inner g
inner_layer (F.Leaf w) g is = absurd (none-some g is)
inner_layer (F.Parts gs) g is = absurd (none-some g is)
inner_layer (F.Rows gs) g is = absurd (none-some g is)
inner_layer (F.Keyed es) g is = absurd (none-some g is)
inner_layer (F.Inner h) g is = rolls-Inner h ∙ ap Inner (same_Some h g is)

pub is_inner : (h g : Held) → inner_of h ≡ Some g → h ≡ Inner g
is_inner h g is = sym (roll-out-Held h) ∙ inner_layer (out-Held h) g is

-- leaves hold their values
pub leaf_values : (row : List Value) → map (λ v. value_in (leaf_of v)) (map Leaf row) ≡ row
leaf_values [] = refl
leaf_values (v ∷ row) = ap (λ (w : Value). w ∷ map (λ (x : Held). value_in (leaf_of x)) (map Leaf row)) (ap value_in (leaf_of-Leaf v)) ∙ ap (λ (r : List Value). v ∷ r) (leaf_values row)
