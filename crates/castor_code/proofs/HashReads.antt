-- A hash index, read part by part.
use Rattle.std.proofs.Common.{◌≡◌, ◌∙◌, ℕ, List, length, ◌⊎◌, inl, inr, Option, Some, None, ap, sym}
use Rattle.castor_alg.specs.declared.expr.Expr.{Expr}
use Rattle.castor_code.specs.declared.code.Code.{Code}
use Rattle.castor_code.specs.declared.code.Code as made
use Rattle.castor_code.specs.declared.code.Range.{Range}
use Rattle.castor_code.specs.declared.decoding.CodeError.{CodeError}
use Rattle.castor_code.specs.declared.decoding.CodeError.TheVariants.{NotCode, Memory}
use Rattle.castor_code.specs.declared.tag.CodeTag.TheVariants as tag
use Rattle.castor_code.specs.CodeReadings.{Input, Parse, ranges_in, key_codes_in, hash_key_in, code_after}
use Rattle.castor_code.specs.Steps.{next, many}
use Rattle.castor_code.proofs.StepLaws.{got, next_of}

module _ (one : Parse Code) (other : Parse Expr) (s a b d left : Input) (count body : Range) (ks : List Code) (kid : Code) (n : ℕ) (ranges : ranges_in s ≡ Some ((count, body), a)) (keys : key_codes_in one a ≡ Some (ks, b)) (child : one b ≡ Some (kid, d)) (counted : n ≡ length ks) where
  abbrev with_key : List Expr → Input → Option ((List Code × (Code × List Expr)) × Input)
  with_key es v = got (ks, (kid, es)) v

  abbrev with_ranges : List Code × (Code × List Expr) → Input → Option (((Range × Range) × (List Code × (Code × List Expr))) × Input)
  with_ranges y u = got ((count, body), y) u

  abbrev as_code : (Range × Range) × (List Code × (Code × List Expr)) → Input → Option (Code × Input)
  as_code x t = got (made.Hash x.0.0 x.0.1 x.1.0 x.1.1.0 x.1.1.1) t

  -- the code, from the expressions that end it
  abbrev whole : Option (List Expr × Input) → Option (Code × Input)
  whole o = next (next (next o with_key) with_ranges) as_code

  key_due : hash_key_in one other a ≡ next (many n other d) with_key
  key_due =
      next_of (key_codes_in one a) (λ (k : List Code) (t : Input). next (one t) (λ (c : Code) (u : Input). next (many (length k) other u) (λ (es : List Expr) (v : Input). got (k, (c, es)) v))) ks b keys
      ∙ next_of (one b) (λ (c : Code) (u : Input). next (many (length ks) other u) (λ (es : List Expr) (v : Input). got (ks, (c, es)) v)) kid d child
      ∙ ap (λ m. next (many m other d) with_key) (sym counted)

  code_due : code_after tag.Hash one other s ≡ whole (many n other d)
  code_due = ap (λ (o : Option (((Range × Range) × (List Code × (Code × List Expr))) × Input)). next o as_code)
      (next_of (ranges_in s) (λ (x : Range × Range) (t : Input). next (hash_key_in one other t) (λ (y : List Code × (Code × List Expr)) (u : Input). got (x, y) u)) (count, body) a ranges
      ∙ ap (λ (o : Option ((List Code × (Code × List Expr)) × Input)). next o with_ranges) key_due)

  pub hash_there : (es : List Expr) → many n other d ≡ Some (es, left) → code_after tag.Hash one other s ≡ Some (made.Hash count body ks kid es, left)
  hash_there es read = code_due ∙ ap whole read

  pub hash_stopped : (e : CodeError) → (e ≡ Memory) ⊎ ((e ≡ NotCode) × (many n other d ≡ None)) → (e ≡ Memory) ⊎ ((e ≡ NotCode) × (code_after tag.Hash one other s ≡ None))
  hash_stopped e (inl memory) = inl memory
  hash_stopped e (inr due) = inr (due.0, code_due ∙ ap whole due.1)
