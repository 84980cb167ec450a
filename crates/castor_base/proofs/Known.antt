-- Steps that follow each other, on bytes that may be told or not.
use Rattle.std.proofs.Common.{suc, get_or, length, ◌<◌, refl, ◌≡◌, ℕ, List, [], ◌++◌, take, drop, Option, Some, None, Result, Ok, Err, OnErr, sym, ◌∙◌, ap, append_assoc}
use Rattle.std.proofs.lemmas.List.{append-nil, take-append-drop}
use Rattle.std.proofs.Math.Seq.{drop-cons}
use Rattle.std.proofs.lemmas.Grind.{flat_map-append}
use Rattle.std.specs.List.{flat_map}
use Rattle.std.specs.Io.KnownBytes.{Appends, Consumes, Keeps}
use Rattle.castor_base.specs.Files.{IsPrefix}
use Rattle.castor_base.specs.Moves.{AppendsPrefix}

-- bytes that went out, and more after them
pub appends_more : (a b c : Option (List ℕ)) (x y z : List ℕ) → Appends a b x → Appends b c y → x ++ y ≡ z → Appends a c z
appends_more None b c x y z p q e = tt
appends_more (Some xs) None c x y z p q e = absurd p
appends_more (Some xs) (Some ys) None x y z p q e = absurd q
appends_more (Some xs) (Some ys) (Some zs) x y z p q e = q ∙ ap (λ w. w ++ y) p ∙ append_assoc xs x y ∙ ap (λ w. xs ++ w) e

-- bytes that were taken, and more after them
pub consumes_more : (a b c : Option (List ℕ)) (x y z : List ℕ) → Consumes a b x → Consumes b c y → x ++ y ≡ z → Consumes a c z
consumes_more None b c x y z p q e = tt
consumes_more (Some xs) None c x y z p q e = absurd p
consumes_more (Some xs) (Some ys) None x y z p q e = absurd q
consumes_more (Some xs) (Some ys) (Some zs) x y z p q e = p ∙ ap (λ w. x ++ w) q ∙ sym (append_assoc x y zs) ∙ ap (λ w. w ++ zs) e

-- nothing changed, twice
pub keeps_more : (a b c : Option (List ℕ)) → Keeps a b → Keeps b c → Keeps a c
keeps_more None b c p q = tt
keeps_more (Some xs) None c p q = absurd p
keeps_more (Some xs) (Some ys) None p q = absurd q
keeps_more (Some xs) (Some ys) (Some zs) p q = q ∙ p

-- bytes that went out, and nothing after them
pub keeps_appends : (a b c : Option (List ℕ)) (x : List ℕ) → Appends a b x → Keeps b c → Appends a c x
keeps_appends None b c x p q = tt
keeps_appends (Some xs) None c x p q = absurd p
keeps_appends (Some xs) (Some ys) None x p q = absurd q
keeps_appends (Some xs) (Some ys) (Some zs) x p q = q ∙ p

-- bytes that were taken, and nothing after them
pub keeps_consumes : (a b c : Option (List ℕ)) (x : List ℕ) → Consumes a b x → Keeps b c → Consumes a c x
keeps_consumes None b c x p q = tt
keeps_consumes (Some xs) None c x p q = absurd p
keeps_consumes (Some xs) (Some ys) None x p q = absurd q
keeps_consumes (Some xs) (Some ys) (Some zs) x p q = p ∙ ap (λ w. x ++ w) (sym q)

-- where nothing changed, no bytes went out
pub keeps_none : (a b : Option (List ℕ)) → Keeps a b → Appends a b []
keeps_none None b p = tt
keeps_none (Some xs) None p = absurd p
keeps_none (Some xs) (Some ys) p = p ∙ sym (append-nil xs)

-- the first n bytes are a prefix
pub prefix_at : (n : ℕ) (bytes : List ℕ) → IsPrefix (take n bytes) bytes
prefix_at n bytes = (drop n bytes, sym (take-append-drop n bytes))

-- all the bytes are a prefix of themselves
pub prefix_whole : (a b : Option (List ℕ)) (bytes : List ℕ) → Appends a b bytes → AppendsPrefix a b bytes
prefix_whole a b bytes p = (bytes, ([], sym (append-nil bytes)), p)

-- no bytes are a prefix of any
pub prefix_none : (a b : Option (List ℕ)) (bytes : List ℕ) → Keeps a b → AppendsPrefix a b bytes
prefix_none a b bytes p = ([], (bytes, refl), keeps_none a b p)

-- bytes that went out, and a prefix of those that come next
pub prefix_more : (a b c : Option (List ℕ)) (done next rest all : List ℕ) → Appends a b done → AppendsPrefix b c next → done ++ (next ++ rest) ≡ all → AppendsPrefix a c all
prefix_more a b c done next rest all p (prefix, (more, split), q) e = (
  done ++ prefix,
  (more ++ rest, sym e ∙ ap (λ w. done ++ (w ++ rest)) split ∙ ap (λ w. done ++ w) (append_assoc prefix more rest) ∙ sym (append_assoc done prefix (more ++ rest))),
  appends_more a b c done prefix (done ++ prefix) p q refl,
)

-- a fact holds on Err where it holds
pub on_err : {T E : Type 0} (r : Result T E) {P : Type 0} → P → OnErr r P
on_err (Ok x) p = tt
on_err (Err e) p = p

-- the pieces up to one, that one, and those after it
pieces-cut : {X : Type 0} (f : X → List ℕ) (xs : List X) (i : ℕ) (d : X) → i < length xs → flat_map f xs ≡ flat_map f (take i xs) ++ (f (get_or xs i d) ++ flat_map f (drop (suc i) xs))
pieces-cut f xs i d lt =
    ap (λ w. flat_map f w) (sym (take-append-drop i xs)) ∙ flat_map-append f (take i xs) (drop i xs)
    ∙ ap (λ w. flat_map f (take i xs) ++ flat_map f w) (drop-cons xs i d lt)

-- whole pieces went out, and a prefix of the next
pub pieces-prefix : {X : Type 0} (f : X → List ℕ) (xs : List X) (i : ℕ) (d : X) (a b c : Option (List ℕ)) → i < length xs → Appends a b (flat_map f (take i xs)) → AppendsPrefix b c (f (get_or xs i d)) → AppendsPrefix a c (flat_map f xs)
pieces-prefix f xs i d a b c lt p q = prefix_more a b c (flat_map f (take i xs)) (f (get_or xs i d)) (flat_map f (drop (suc i) xs)) (flat_map f xs) p q (sym (pieces-cut f xs i d lt))
