-- The laws of sets of faults.
use Rattle.std.proofs.Common.{◌≡◌, Bool, true, false, ◌||◌, refl}
use Rattle.castor_val.specs.declared.fault.Faults.{Faults}
use Rattle.castor_val.specs.Values.{no_faults, union}

or_assoc : (a b c : Bool) → ((a || b) || c) ≡ (a || (b || c))
or_assoc true b c = refl
or_assoc false b c = refl

or_comm : (a b : Bool) → (a || b) ≡ (b || a)
or_comm true true = refl
or_comm true false = refl
or_comm false true = refl
or_comm false false = refl

or_self : (a : Bool) → (a || a) ≡ a
or_self true = refl
or_self false = refl

or_false : (a : Bool) → (a || false) ≡ a
or_false true = refl
or_false false = refl

pub union_assoc : (f g h : Faults) → union (union f g) h ≡ union f (union g h)
union_assoc f g h = λ i. record {
  division = or_assoc f.division g.division h.division i;
  overflow = or_assoc f.overflow g.overflow h.overflow i;
  norows = or_assoc f.norows g.norows h.norows i;
}

pub union_comm : (f g : Faults) → union f g ≡ union g f
union_comm f g = λ i. record {
  division = or_comm f.division g.division i;
  overflow = or_comm f.overflow g.overflow i;
  norows = or_comm f.norows g.norows i;
}

pub union_self : (f : Faults) → union f f ≡ f
union_self f = λ i. record {
  division = or_self f.division i;
  overflow = or_self f.overflow i;
  norows = or_self f.norows i;
}

pub union-no_faults : (f : Faults) → union f no_faults ≡ f
union-no_faults f = λ i. record {
  division = or_false f.division i;
  overflow = or_false f.overflow i;
  norows = or_false f.norows i;
}
