-- Aggregates that are found one after another.
use Rattle.std.proofs.Common.{◌≡◌, ◌∙◌, ℕ, zero, suc, pos, ◌+ℤ◌, ◌<◌, ◌+◌, List, [], ◌∷◌, ◌++◌, length, map, filter, take, get_or, Bor, refl, sym, ap, Result, Ok, Err, append_assoc, append-nil, arith}
use Rattle.std.specs.List.{flat_map}
use Rattle.std.proofs.lemmas.List.{map-append, take_more}
use Rattle.std.proofs.lemmas.List.Sums.{fold-append}
use Rattle.castor_val.specs.declared.fault.Faults.{Faults}
use Rattle.castor_val.specs.declared.row.Row.{Row}
use Rattle.castor_val.specs.Values.{column, same_row, union}
use Rattle.castor_alg.specs.declared.out.Out.{Out}
use Rattle.castor_alg.specs.declared.rel.Agg.{Agg}
use Rattle.castor_alg.specs.Expression.{Answer, put_front}
use Rattle.castor_alg.specs.Groups.{aggregate, aggregates, behind_key, group_row, grouped, int_in, key_of, total}
use Rattle.castor_alg.specs.Rows.{faults_in, row_in, union_over}
use Rattle.castor_eval.specs.Answers.{put_back}
use Rattle.castor_eval.specs.Grouping.{IsGrouped, answers, gathered}
use Rattle.castor_eval.proofs.AnswerLaws.{put_back-put_front, put_front-none}
use Rattle.castor_eval.proofs.LoopLaws.{flat_map-map, over-map}

aggregates-more : (aggs : List Agg) (a : Agg) (rows : List Row) → aggregates (aggs ++ a ∷ []) rows ≡ put_back (aggregates aggs rows) (aggregate a rows)
aggregates-more [] a rows = put_front-none (aggregate a rows)
aggregates-more (x ∷ aggs) a rows = ap (put_front (aggregate x rows)) (aggregates-more aggs a rows) ∙ sym (put_back-put_front (aggregate x rows) (aggregates aggs rows) (aggregate a rows))

behind_key-put_back : (key : Row) (row : Result Row Faults) (v : Answer) → behind_key key (put_back row v) ≡ put_back (behind_key key row) v
behind_key-put_back key (Ok row) (Ok v) = ap Ok (sym (append_assoc key row (v ∷ [])))
behind_key-put_back key (Ok row) (Err f) = refl
behind_key-put_back key (Err g) (Ok v) = refl
behind_key-put_back key (Err g) (Err f) = refl

-- a key with no aggregates
pub behind_key-none : (key : Row) (rows : List Row) (answer : Result Row Faults) → answer ≡ Ok key → answer ≡ behind_key key (aggregates [] rows)
behind_key-none key rows answer e = e ∙ ap Ok (sym (append-nil key))

-- one more aggregate
pub aggregates-step : (key : Row) (aggs : List Agg) (i : ℕ) (d : Agg) (rows : List Row) (done out : Result Row Faults) (next : Answer) → i < length aggs → done ≡ behind_key key (aggregates (take i aggs) rows) → next ≡ aggregate (get_or aggs i d) rows → out ≡ put_back done next
    → out ≡ behind_key key (aggregates (take (i + 1) aggs) rows)
aggregates-step key aggs i d rows done out next h e n o =
    o ∙ (λ j. put_back (e j) (n j))
    ∙ sym (behind_key-put_back key (aggregates (take i aggs) rows) (aggregate (get_or aggs i d) rows))
    ∙ ap (behind_key key) (sym (aggregates-more (take i aggs) (get_or aggs i d) rows))
    ∙ ap (λ gs. behind_key key (aggregates gs rows)) (sym (take_more aggs i d h))

-- the whole number of one more row
pub total-more : (at : ℕ) (rows : List (Bor Row)) (i : ℕ) (row : Bor Row) → i < length rows → row ≡ get_or rows i row → total at (map (λ r. r.now) (take (i + 1) rows)) ≡ total at (map (λ r. r.now) (take i rows)) +ℤ int_in (column row.now at)
total-more at rows i row h is =
    ap (λ rs. total at (map (λ r. r.now) rs)) (take_more rows i row h ∙ ap (λ y. take i rows ++ y ∷ []) (sym is))
    ∙ ap (total at) (map-append (λ r. r.now) (take i rows) (row ∷ []))
    ∙ fold-append (λ sum r. sum +ℤ int_in (column r at)) (pos 0) (map (λ r. r.now) (take i rows)) (row.now ∷ [])

-- the groups, one by one
pub length-answers : (aggs : List Agg) (keys : List Row) (members : List (List Row)) → length members ≡ length keys → length (answers aggs keys members) ≡ length keys
length-answers aggs [] members e = refl
length-answers aggs (k ∷ keys) [] e = absurd (omega (arith, e))
length-answers aggs (k ∷ keys) (m ∷ members) e = ap (λ n. suc n) (length-answers aggs keys members (omega (arith, e)))

pub answers-at : (aggs : List Agg) (keys : List Row) (members : List (List Row)) (i : ℕ) (k : Row) (m : List Row) (d : Result Row Faults) → i < length keys → length members ≡ length keys → k ≡ get_or keys i k → m ≡ get_or members i m
    → behind_key k (aggregates aggs m) ≡ get_or (answers aggs keys members) i d
answers-at aggs [] members i k m d h e a b = absurd (omega (arith, h))
answers-at aggs (x ∷ keys) [] i k m d h e a b = absurd (omega (arith, e))
answers-at aggs (x ∷ keys) (y ∷ members) zero k m d h e a b = (λ j. behind_key (a j) (aggregates aggs (b j)))
answers-at aggs (x ∷ keys) (y ∷ members) (suc i) k m d h e a b = answers-at aggs keys members i k m d (omega (arith, h)) (omega (arith, e)) a b

answers-map : (ks : List ℕ) (aggs : List Agg) (rows keys : List Row) → answers aggs keys (map (λ key. filter (λ row. same_row (key_of ks row) key) rows) keys) ≡ map (group_row ks aggs rows) keys
answers-map ks aggs rows [] = refl
answers-map ks aggs rows (k ∷ keys) = ap (λ gs. group_row ks aggs rows k ∷ gs) (answers-map ks aggs rows keys)

-- all groups of rows
pub grouped_whole : (ks : List ℕ) (aggs : List Agg) (keys : List Row) (members : List (List Row)) (rows : List Row) (faults : Faults) (out : Out) → IsGrouped ks keys members rows → out ≡ gathered faults (answers aggs keys members) → out ≡ grouped ks aggs (record { rows = rows; faults = faults })
grouped_whole ks aggs keys members rows faults out g e =
    let all = ap (answers aggs keys) g.members_are ∙ answers-map ks aggs rows keys in
    let made = ap (flat_map row_in) all ∙ flat_map-map row_in (group_row ks aggs rows) keys ∙ ap (flat_map (λ key. row_in (group_row ks aggs rows key))) g.keys_are in
    let met = ap (λ gs. union faults (union_over faults_in gs)) all ∙ ap (union faults) (over-map faults_in (group_row ks aggs rows) keys) ∙ ap (λ ys. union faults (union_over (λ key. faults_in (group_row ks aggs rows key)) ys)) g.keys_are in
    e ∙ (λ i. record { rows = made i; faults = met i })
