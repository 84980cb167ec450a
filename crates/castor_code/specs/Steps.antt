-- Reading one thing after the other, from whatever is left to read.
use Rattle.std.specs.Prelude.{ℕ, zero, suc, List, [], ◌∷◌, ◌++◌, Bool, if◌then◌else◌, Option, Some, None}

-- what is read next, of what was read and of what is left
abbrev pub next : {X S Y : Type 0} → Option (X × S) → (X → S → Option Y) → Option Y
next (Some x) f = f x.0 x.1
next None f = None

-- a test, else nothing
abbrev pub when : {X : Type 0} → Bool → X → Option X
when b x = if b then Some x else None

-- so many things of one kind
abbrev pub many : {X S : Type 0} → ℕ → (S → Option (X × S)) → S → Option (List X × S)
many zero one s = Some ([], s)
many (suc n) one s = next (one s) (λ x t. next (many n one t) (λ xs u. Some (x ∷ xs, u)))

-- the same, behind what was read before
abbrev pub behind : {X S : Type 0} → List X → Option (List X × S) → Option (List X × S)
behind xs o = next o (λ ys s. Some (xs ++ ys, s))

-- two things in turn
abbrev pub in_pair : {X Y S : Type 0} → (S → Option (X × S)) → (S → Option (Y × S)) → S → Option ((X × Y) × S)
in_pair one other s = next (one s) (λ x t. next (other t) (λ y u. Some ((x, y), u)))

-- what is made of what is read
abbrev pub made : {X Y S : Type 0} → (X → Y) → (S → Option (X × S)) → S → Option (Y × S)
made f one s = next (one s) (λ x t. Some (f x, t))

-- what is read, where it passes a test
abbrev pub passing : {X S : Type 0} → (X → Bool) → (S → Option (X × S)) → S → Option (X × S)
passing test one s = next (one s) (λ x t. when (test x) (x, t))
