-- Tables that are loaded one after another.
use Rattle.std.proofs.Common.{◌≡◌, ◌⊎◌, ◌∙◌, ℕ, zero, suc, ◌+◌, List, [], ◌∷◌, ◌++◌, Bool, true, false, Option, Some, None, Result, Ok, Err, IfSome, refl, sym, ap, subst, inl, inr, arith, append_assoc, add-zero, length, take, drop, ◌-◌, ◌≤◌}
use Rattle.std.specs.Prelude.{slice_index_or}
use Rattle.std.proofs.lemmas.List.{take_rest}
use Rattle.castor_base.specs.Causes.{Rose}
use Rattle.castor_base.specs.Files.{Files, SameFiles}
use Rattle.castor_val.specs.declared.table.Table.{Table}
use Rattle.castor_names.specs.declared.table.Declared.{Declared}
use Rattle.castor_cli.specs.declared.status.Place.TheVariants as place
use Rattle.castor_cli.specs.declared.status.ReadFault.TheVariants as fault
use Rattle.castor_cli.specs.declared.status.Status.{Status}
use Rattle.castor_cli.specs.declared.status.Status.TheVariants as status
use Rattle.castor_cli.specs.Causes.{IsDueAmong, IsOfTable, LoadsAll, NamesOneOf, RoseWhere, TableRefused, TablesRefused}
use Rattle.castor_cli.specs.Preparation.{table_in, tables_in}
use Rattle.castor_cli.specs.Status.{table_file}

-- a fact of told files, from another
pub if_told : (told : Option Files) (P Q : Files → Type 0) → ((files : Files) → P files → Q files) → IfSome told P → IfSome told Q
if_told None P Q f p = tt
if_told (Some files) P Q f p = f files p

-- a fact of the files that are told later holds of those that were told before
pub if_told_later : (told later : Option Files) (P : Files → Type 0) → SameFiles told later → IfSome later P → IfSome told P
if_told_later None later P same p = tt
if_told_later (Some f) None P same p = absurd same
if_told_later (Some f) (Some g) P same p = subst P (λ i name. same name i) p

-- files that stay the same, and then again
pub same_again : (told later last : Option Files) → SameFiles told later → SameFiles later last → SameFiles told last
same_again None later last same again = tt
same_again (Some f) None last same again = absurd same
same_again (Some f) (Some g) None same again = absurd again
same_again (Some f) (Some g) (Some h) same again = λ name. again name ∙ same name

pub both_told : (told : Option Files) (P Q R : Files → Type 0) → ((files : Files) → P files → Q files → R files) → IfSome told P → IfSome told Q → IfSome told R
both_told None P Q R f p q = tt
both_told (Some files) P Q R f p q = f files p q

names_first : (number : ℕ) (d : Declared) (ds : List Declared) (s : Status) → IsOfTable number s → NamesOneOf number (d ∷ ds) s d.name
names_first number d ds (status.Read (place.Table i) why) is = (zero, is ∙ sym (add-zero number), refl)
names_first number d ds (status.Table i why) is = (zero, is ∙ sym (add-zero number), refl)
names_first number d ds status.Memory is = tt
names_first number d ds s is = absurd is

due_first : (files : Files) (number : ℕ) (d : Declared) (ds : List Declared) (s : Status)
    → (s ≡ status.Memory) ⊎ ((fails : Bool) × (fails ≡ true → s ≡ status.Read (place.Table number) fault.Failed) × (table_in fails files number d ≡ Err s))
    → IsDueAmong number (λ failing. tables_in failing files number (d ∷ ds)) s
due_first files number d ds s (inl memory) = inl memory
due_first files number d ds s (inr (true, blames, is)) = inr (Some zero, rw (add-zero number) (blames refl), rw is refl)
due_first files number d ds s (inr (false, blames, is)) = inr (None, tt, rw is refl)

-- the first table was refused
pub first_refused : (told after_it : Option Files) (rose : List ℕ → Type 0) (number : ℕ) (d : Declared) (ds : List Declared) (s : Status)
    → TableRefused told after_it (rose (table_file d.name)) number d s → TablesRefused told after_it rose number (d ∷ ds) s
first_refused told after_it rose number d ds s r = record {
  due = if_told told _ _ (λ files. due_first files number d ds s) r.due;
  table = (d.name, names_first number d ds s r.of_table, r.count);
}

names_later : (number : ℕ) (d : Declared) (ds : List Declared) (s : Status) (name : List ℕ) → NamesOneOf (number + 1) ds s name → NamesOneOf number (d ∷ ds) s name
names_later number d ds (status.Read (place.Table i) why) name (k, is, same) = (suc k, omega (arith, is), same)
names_later number d ds (status.Table i why) name (k, is, same) = (suc k, omega (arith, is), same)
names_later number d ds status.Memory name h = tt
names_later number d ds s name h = absurd h

due_later : (files : Files) (number : ℕ) (d : Declared) (ds : List Declared) (t : Table) (s : Status) → table_in false files number d ≡ Ok t
    → IsDueAmong (number + 1) (λ failing. tables_in failing files (number + 1) ds) s → IsDueAmong number (λ failing. tables_in failing files number (d ∷ ds)) s
due_later files number d ds t s well (inl memory) = inl memory
due_later files number d ds t s well (inr (None, blames, is)) = inr (None, tt, rw (well, is) refl)
due_later files number d ds t s well (inr (Some k, blames, is)) =
    inr (Some (suc k), subst (λ (i : ℕ). s ≡ status.Read (place.Table i) fault.Failed) (omega arith) blames, rw (well, is) refl)

-- a later table was refused
pub later_refused : (told later after_it : Option Files) (rose rises : List ℕ → Type 0) (number : ℕ) (d : Declared) (ds : List Declared) (t : Table) (s : Status)
    → IfSome told (λ (files : Files). table_in false files number d ≡ Ok t) → SameFiles told later → ((name : List ℕ) (s : Status) → RoseWhere after_it (rose name) s → RoseWhere after_it (rises name) s)
    → TablesRefused later after_it rose (number + 1) ds s → TablesRefused told after_it rises number (d ∷ ds) s
later_refused told later after_it rose rises number d ds t s well same up r = record {
  due = both_told told _ _ _ (λ files w h. due_later files number d ds t s w h) well (if_told_later told later _ same r.due);
  table = let (name, names, count) = r.table in (name, names_later number d ds s name names, up (table_file name) s count);
}

loaded_in : (files : Files) (number : ℕ) (d : Declared) (ds : List Declared) (t : Table) (old mid new : List Table) → mid ≡ old ++ t ∷ [] → table_in false files number d ≡ Ok t
    → (ts : List Table) × (new ≡ mid ++ ts) × (tables_in None files (number + 1) ds ≡ Ok ts) → (ts : List Table) × (new ≡ old ++ ts) × (tables_in None files number (d ∷ ds) ≡ Ok ts)
loaded_in files number d ds t old mid new pushed well (ts, grew, is) = (t ∷ ts, grew ∙ ap (λ m. m ++ ts) pushed ∙ append_assoc old (t ∷ []) ts, rw (well, is) refl)

-- all were loaded
pub all_loaded : (told later : Option Files) (number : ℕ) (d : Declared) (ds : List Declared) (t : Table) (old mid new : List Table) → mid ≡ old ++ t ∷ []
    → IfSome told (λ (files : Files). table_in false files number d ≡ Ok t) → SameFiles told later
    → IfSome later (λ (files : Files). (ts : List Table) × (new ≡ mid ++ ts) × (tables_in None files (number + 1) ds ≡ Ok ts))
    → IfSome told (λ (files : Files). (ts : List Table) × (new ≡ old ++ ts) × (tables_in None files number (d ∷ ds) ≡ Ok ts))
all_loaded told later number d ds t old mid new pushed well same rest =
    both_told told _ _ _ (λ files w h. loaded_in files number d ds t old mid new pushed w h) well (if_told_later told later _ same rest)

-- a list that isn't empty is its first element and the rest
pub split_first : (xs : List Declared) (first : Declared) → 1 ≤ length xs → first ≡ slice_index_or xs 0 first → xs ≡ first ∷ take (length xs - 1) (drop 1 xs)
split_first [] first some is = absurd (omega arith)
split_first (x ∷ xs) first some is = rw (take_rest, is) refl

-- a count that rose later rose in all
pub rose_in_all : (a b c : ℕ) → a ≤ b → Rose b c → Rose a c
rose_in_all a b c le up = omega (arith, le, up)

pub rose_where_up : (told : Option Files) (rose rises : Type 0) (s : Status) → (rose → rises) → RoseWhere told rose s → RoseWhere told rises s
rose_where_up None rose rises (status.Read p fault.Absent) up h = up h
rose_where_up None rose rises (status.Read p fault.TooLong) up h = up h
rose_where_up None rose rises (status.Read p fault.Failed) up h = up h
rose_where_up (Some f) rose rises (status.Read p fault.Absent) up h = tt
rose_where_up (Some f) rose rises (status.Read p fault.TooLong) up h = tt
rose_where_up (Some f) rose rises (status.Read p fault.Failed) up h = up h
rose_where_up told rose rises s up h = tt

-- the first of the tables was refused
pub refused_at_first : (told after_it : Option Files) (rose : List ℕ → Type 0) (number : ℕ) (xs : List Declared) (first : Declared) (s : Status)
    → 1 ≤ length xs → first ≡ slice_index_or xs 0 first → TableRefused told after_it (rose (table_file first.name)) number first s → TablesRefused told after_it rose number xs s
refused_at_first told after_it rose number xs first s some is r =
    subst (λ (ds : List Declared). TablesRefused told after_it rose number ds s) (sym (split_first xs first some is)) (first_refused told after_it rose number first _ s r)

loads_first : (told later after_it : Option Files) (rose rises : List ℕ → Type 0) (number : ℕ) (d : Declared) (ds : List Declared) (t : Table) (old mid new : List Table) (r : Result (Unit {0}) Status)
    → mid ≡ old ++ t ∷ [] → IfSome told (λ (files : Files). table_in false files number d ≡ Ok t) → SameFiles told later → ((name : List ℕ) → rose name → rises name)
    → LoadsAll later after_it rose (number + 1) ds mid new r → LoadsAll told after_it rises number (d ∷ ds) old new r
loads_first told later after_it rose rises number d ds t old mid new (Ok done) pushed well same up rest = all_loaded told later number d ds t old mid new pushed well same rest
loads_first told later after_it rose rises number d ds t old mid new (Err s) pushed well same up rest =
    later_refused told later after_it rose rises number d ds t s well same (λ name u. rose_where_up after_it (rose name) (rises name) u (up name)) rest

-- the first of the tables was loaded, and then the others
pub loads_rest : (told later after_it : Option Files) (rose rises : List ℕ → Type 0) (number : ℕ) (xs : List Declared) (first : Declared) (t : Table) (old mid new : List Table) (r : Result (Unit {0}) Status)
    → 1 ≤ length xs → first ≡ slice_index_or xs 0 first → mid ≡ old ++ t ∷ [] → IfSome told (λ (files : Files). table_in false files number first ≡ Ok t) → SameFiles told later
    → ((name : List ℕ) → rose name → rises name) → LoadsAll later after_it rose (number + 1) (take (length xs - 1) (drop 1 xs)) mid new r → LoadsAll told after_it rises number xs old new r
loads_rest told later after_it rose rises number xs first t old mid new r some is pushed well same up rest =
    subst (λ (ds : List Declared). LoadsAll told after_it rises number ds old new r) (sym (split_first xs first some is))
    (loads_first told later after_it rose rises number first _ t old mid new r pushed well same up rest)
