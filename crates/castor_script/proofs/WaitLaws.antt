-- Operands that wait.
use Rattle.std.proofs.Common.{◌≡◌, ◌∙◌, refl, sym, ap, List, [], ◌∷◌, map, Bool, ◌||◌}
use Rattle.std.specs.List.{list_any}
use Rattle.castor_alg.specs.declared.rel.Rel.{Rel}
use Rattle.castor_script.specs.Settled.{RunScopes, Waiting, waits}

each_waits : (runs : RunScopes) (rs : List Rel) → list_any (λ (r : Waiting). r runs) (map waits rs) ≡ list_any (λ r. waits r runs) rs
each_waits runs [] = refl
each_waits runs (r ∷ rs) = ap (λ b. waits r runs || b) (each_waits runs rs)

-- a relation waits where one of its operands does
pub operands_wait : (runs : RunScopes) (q : Rel) (rs slice : List Rel) (result : Bool) → waits q runs ≡ list_any (λ (r : Waiting). r runs) (map waits rs) → slice ≡ rs → result ≡ list_any (λ r. waits r runs) slice → result ≡ waits q runs
operands_wait runs q rs slice result all same found = found ∙ ap (list_any (λ r. waits r runs)) same ∙ sym (each_waits runs rs) ∙ sym all
