-- Words that name files and options are read to their end.
use Rattle.std.proofs.Common.{◌≡◌, ◌≢◌, ℕ, zero, suc, ◌+◌, ◌≤◌, length, true, false, Bool, List, [], ◌∷◌, ◌++◌, Option, Some, None, refl, sym, ◌∙◌, ap, arith, codes, append-nil, append_assoc, drop, length-append}
use Rattle.std.specs.Prelude.{nat_eq, nat_lt, option_and_then}
use Rattle.std.proofs.lemmas.Bool.Decides.{Decides-eqb, Decides-ltb}
use Rattle.command_words.specs.declared.arguments.Next.{Next}
use Rattle.command_words.specs.declared.arguments.Next.TheVariants.{Any, Budget, Save, File}
use Rattle.command_words.specs.Words.{IsPlain, Names, nothing, only_files, a_file, a_budget, joined_budget, a_save, joined_save, a_strip}
use Rattle.command_words.specs.Reading.{Arguments, after, number_in, value_behind, with_any, with_budget, with_file, with_image, with_other, with_save, with_unvalued, with_value}

abbrev pub state : (files : List (List ℕ)) (budget : Option ℕ) (save : Option (List ℕ)) (strip : Bool) (next : Next) → Arguments
state files budget save strip next = record { files = files; budget = budget; save = save; strip = strip; next = next }

-- from what was named so far, with what words name, to the end

pub data BudgetStep : Option ℕ → List (List ℕ) → Option ℕ → Type 0 where
  budget_stays : {budget : Option ℕ} → BudgetStep budget [] budget
  budget_set : {digits : List ℕ} {budget : ℕ} → number_in digits ≡ Some budget → BudgetStep None (digits ∷ []) (Some budget)

pub data SaveStep : Option (List ℕ) → List (List ℕ) → Option (List ℕ) → Type 0 where
  save_stays : {save : Option (List ℕ)} → SaveStep save [] save
  save_set : {image : List ℕ} → SaveStep None (image ∷ []) (Some image)

pub data StripStep : Bool → ℕ → Bool → Type 0 where
  strip_stays : {strip : Bool} → StripStep strip zero strip
  strip_set : StripStep false (suc zero) true

pub record Comes (files : List (List ℕ)) (budget : Option ℕ) (save : Option (List ℕ)) (strip : Bool) (files' budgets saves : List (List ℕ)) (strips : ℕ) (all : List (List ℕ)) (budget' : Option ℕ) (save' : Option (List ℕ)) (strip' : Bool) : Type 0 where
  pub all_files : all ≡ files ++ files'
  pub few : length all ≤ 2
  pub has_budget : BudgetStep budget budgets budget'
  pub has_save : SaveStep save saves save'
  pub has_strip : StripStep strip strips strip'

-- the words are read to their end
pub record Reaches (from : Arguments) (words all : List (List ℕ)) (budget : Option ℕ) (save : Option (List ℕ)) (strip : Bool) : Type 0 where
  pub next : Next
  pub reached : after from words ≡ Some (state all budget save strip next)

fewer : (files more all : List (List ℕ)) (word : List ℕ) → all ≡ files ++ (word ∷ more) → length all ≤ 2 → nat_lt (length files) 2 ≡ true
fewer files more all word e few =
    let n : length all ≡ length files + length (word ∷ more) = ap length e ∙ length-append files (word ∷ more) in
    (Decides-ltb (length files) 2).1 (omega (arith, n, few))

pub files_alone : (words files : List (List ℕ)) (budget : Option ℕ) (save : Option (List ℕ)) (strip : Bool) (all : List (List ℕ)) → all ≡ files ++ words → length all ≤ 2
    → after (state files budget save strip File) words ≡ Some (state all budget save strip File)
files_alone [] files budget save strip all e few = ap (λ fs. Some (state fs budget save strip File)) (sym (e ∙ append-nil files))
files_alone (word ∷ words) files budget save strip all e few =
    rw (fewer files words all word e few) (files_alone words (files ++ word ∷ []) budget save strip all (e ∙ sym (append_assoc files (word ∷ []) words)) few)

unequal : (c : ℕ) → c ≢ 45 → nat_eq c 45 ≡ false
unequal c h = by (nat_eq c 45) refl
  where
    by : (t : Bool) → nat_eq c 45 ≡ t → nat_eq c 45 ≡ false
    by true e = absurd (h ((Decides-eqb c 45).0 e))
    by false e = e

unequal' : (c : ℕ) → c ≢ 45 → nat_eq 45 c ≡ false
unequal' c h = by (nat_eq 45 c) refl
  where
    by : (t : Bool) → nat_eq 45 c ≡ t → nat_eq 45 c ≡ false
    by true e = absurd (h (sym ((Decides-eqb 45 c).0 e)))
    by false e = e

valueless : (front word : List ℕ) (c : ℕ) → nat_eq 45 c ≡ false → value_behind (45 ∷ front) (c ∷ word) ≡ None
valueless front word c e = rw e refl

unvalued : (word : List ℕ) (c : ℕ) (a : Arguments) → nat_eq c 45 ≡ false → with_unvalued (c ∷ word) a ≡ with_file (c ∷ word) a
unvalued word c a e = rw e refl

-- a word that begins with no hyphen is a file
pub plain_any : (word : List ℕ) (a : Arguments) → IsPlain word → with_any word a ≡ with_file word a
plain_any [] a h = refl
plain_any (c ∷ word) a h =
    let no : c ≢ 45 = λ e. h word (ap (λ b. b ∷ word) e) in
    let other : with_other (c ∷ word) a ≡ with_image (value_behind (codes "--save=") (c ∷ word)) (c ∷ word) a =
    ap (λ v. with_value v (c ∷ word) a) (valueless (drop 1 (codes "--budget=")) word c (unequal' c no)) in
    let plain : with_image (value_behind (codes "--save=") (c ∷ word)) (c ∷ word) a ≡ with_unvalued (c ∷ word) a =
    ap (λ v. with_image v (c ∷ word) a) (valueless (drop 1 (codes "--save=")) word c (unequal' c no)) in
    rw (unequal c no) (other ∙ plain ∙ unvalued word c a (unequal c no))

-- an option is read with its value, and then what follows
module _ (words files' budgets saves : List (List ℕ)) (strips : ℕ) (files : List (List ℕ)) (budget : Option ℕ) (save : Option (List ℕ)) (strip : Bool) (all : List (List ℕ)) (budget' : Option ℕ) (save' : Option (List ℕ)) (strip' : Bool) where
  budget_read : (digits : List ℕ) (next : Next) → ((set : Option ℕ) → Comes files set save strip files' budgets saves strips all budget' save' strip' → Reaches (state files set save strip Any) words all budget' save' strip')
      → Comes files budget save strip files' (digits ∷ budgets) saves strips all budget' save' strip'
      → (last : Next) × (option_and_then (λ b. after b words) (with_budget (number_in digits) (state files budget save strip next)) ≡ Some (state all budget' save' strip' last))
  budget_read digits next further c = by budgets budget budget' further c.all_files c.few c.has_save c.has_strip c.has_budget
    where
      by : (budgets : List (List ℕ)) (budget budget' : Option ℕ) → ((set : Option ℕ) → Comes files set save strip files' budgets saves strips all budget' save' strip' → Reaches (state files set save strip Any) words all budget' save' strip')
          → all ≡ files ++ files' → length all ≤ 2 → SaveStep save saves save' → StripStep strip strips strip' → BudgetStep budget (digits ∷ budgets) budget'
          → (last : Next) × (option_and_then (λ b. after b words) (with_budget (number_in digits) (state files budget save strip next)) ≡ Some (state all budget' save' strip' last))
      by budgets budget budget' further e few v s (budget_set {budget = n} is) =
          let r = further (Some n) (record { all_files = e; few = few; has_budget = budget_stays; has_save = v; has_strip = s }) in
          (r.next, rw is r.reached)

  save_read : (image : List ℕ) (next : Next) → ((set : Option (List ℕ)) → Comes files budget set strip files' budgets saves strips all budget' save' strip' → Reaches (state files budget set strip Any) words all budget' save' strip')
      → Comes files budget save strip files' budgets (image ∷ saves) strips all budget' save' strip'
      → (last : Next) × (option_and_then (λ b. after b words) (with_save image (state files budget save strip next)) ≡ Some (state all budget' save' strip' last))
  save_read image next further c = by saves save save' further c.all_files c.few c.has_budget c.has_strip c.has_save
    where
      by : (saves : List (List ℕ)) (save save' : Option (List ℕ)) → ((set : Option (List ℕ)) → Comes files budget set strip files' budgets saves strips all budget' save' strip' → Reaches (state files budget set strip Any) words all budget' save' strip')
          → all ≡ files ++ files' → length all ≤ 2 → BudgetStep budget budgets budget' → StripStep strip strips strip' → SaveStep save (image ∷ saves) save'
          → (last : Next) × (option_and_then (λ b. after b words) (with_save image (state files budget save strip next)) ≡ Some (state all budget' save' strip' last))
      by saves save save' further e few b s save_set =
          let r = further (Some image) (record { all_files = e; few = few; has_budget = b; has_save = save_stays; has_strip = s }) in
          (r.next, r.reached)

  strip_read : ((set : Bool) → Comes files budget save set files' budgets saves strips all budget' save' strip' → Reaches (state files budget save set Any) words all budget' save' strip')
      → Comes files budget save strip files' budgets saves (suc strips) all budget' save' strip' → Reaches (state files budget save strip Any) (codes "--strip" ∷ words) all budget' save' strip'
  strip_read further c = by strips strip strip' further c.all_files c.few c.has_budget c.has_save c.has_strip
    where
      by : (strips : ℕ) (strip strip' : Bool) → ((set : Bool) → Comes files budget save set files' budgets saves strips all budget' save' strip' → Reaches (state files budget save set Any) words all budget' save' strip')
          → all ≡ files ++ files' → length all ≤ 2 → BudgetStep budget budgets budget' → SaveStep save saves save' → StripStep strip (suc strips) strip' → Reaches (state files budget save strip Any) (codes "--strip" ∷ words) all budget' save' strip'
      by strips strip strip' further e few b v strip_set =
          let r = further true (record { all_files = e; few = few; has_budget = b; has_save = v; has_strip = strip_stays }) in
          record { next = r.next; reached = r.reached }

-- what follows an option is reached from its word
reached_by : {from : Arguments} {words all : List (List ℕ)} {budget : Option ℕ} {save : Option (List ℕ)} {strip : Bool} → (last : Next) × (after from words ≡ Some (state all budget save strip last)) → Reaches from words all budget save strip
reached_by r = record { next = r.0; reached = r.1 }

pub read_to_end : {words files' budgets saves : List (List ℕ)} {strips : ℕ} → Names words files' budgets saves strips → (files : List (List ℕ)) (budget : Option ℕ) (save : Option (List ℕ)) (strip : Bool) (all : List (List ℕ)) (budget' : Option ℕ) (save' : Option (List ℕ)) (strip' : Bool)
    → Comes files budget save strip files' budgets saves strips all budget' save' strip' → Reaches (state files budget save strip Any) words all budget' save' strip'
read_to_end nothing files budget save strip all budget' save' strip' c = end files all budget budget' save save' strip strip' c.all_files c.has_budget c.has_save c.has_strip
  where
    end : (files all : List (List ℕ)) (budget budget' : Option ℕ) (save save' : Option (List ℕ)) (strip strip' : Bool) → all ≡ files ++ [] → BudgetStep budget [] budget' → SaveStep save [] save' → StripStep strip zero strip'
        → Reaches (state files budget save strip Any) [] all budget' save' strip'
    end files all budget budget' save save' strip strip' e budget_stays save_stays strip_stays = record { next = Any; reached = ap (λ fs. Some (state fs budget save strip Any)) (sym (e ∙ append-nil files)) }
read_to_end (only_files fs) files budget save strip all budget' save' strip' c = end files all budget budget' save save' strip strip' c.all_files c.few c.has_budget c.has_save c.has_strip
  where
    end : (files all : List (List ℕ)) (budget budget' : Option ℕ) (save save' : Option (List ℕ)) (strip strip' : Bool) → all ≡ files ++ fs → length all ≤ 2 → BudgetStep budget [] budget' → SaveStep save [] save' → StripStep strip zero strip'
        → Reaches (state files budget save strip Any) (codes "--" ∷ fs) all budget' save' strip'
    end files all budget budget' save save' strip strip' e few budget_stays save_stays strip_stays = record { next = File; reached = files_alone fs files budget save strip all e few }
read_to_end (a_file word {words = words} {files = more} plain n) files budget save strip all budget' save' strip' c =
    let r = read_to_end n (files ++ word ∷ []) budget save strip all budget' save' strip'
    (record { all_files = c.all_files ∙ sym (append_assoc files (word ∷ []) more); few = c.few; has_budget = c.has_budget; has_save = c.has_save; has_strip = c.has_strip }) in
    record {
      next = r.next;
      reached = ap (option_and_then (λ b. after b words)) (plain_any word (state files budget save strip Any) plain) ∙ rw (fewer files more all word c.all_files c.few) r.reached;
    }
read_to_end (a_budget digits {words = words} {files = more} {budgets = budgets} {saves = saves} {strips = strips} n) files budget save strip all budget' save' strip' c =
    reached_by (budget_read words more budgets saves strips files budget save strip all budget' save' strip' digits Budget (λ set d. read_to_end n files set save strip all budget' save' strip' d) c)
read_to_end (joined_budget digits {words = words} {files = more} {budgets = budgets} {saves = saves} {strips = strips} n) files budget save strip all budget' save' strip' c =
    reached_by (budget_read words more budgets saves strips files budget save strip all budget' save' strip' digits Any (λ set d. read_to_end n files set save strip all budget' save' strip' d) c)
read_to_end (a_save image {words = words} {files = more} {budgets = budgets} {saves = saves} {strips = strips} n) files budget save strip all budget' save' strip' c =
    reached_by (save_read words more budgets saves strips files budget save strip all budget' save' strip' image Save (λ set d. read_to_end n files budget set strip all budget' save' strip' d) c)
read_to_end (joined_save image {words = words} {files = more} {budgets = budgets} {saves = saves} {strips = strips} n) files budget save strip all budget' save' strip' c =
    reached_by (save_read words more budgets saves strips files budget save strip all budget' save' strip' image Any (λ set d. read_to_end n files budget set strip all budget' save' strip' d) c)
read_to_end (a_strip {words = words} {files = more} {budgets = budgets} {saves = saves} {strips = strips} n) files budget save strip all budget' save' strip' c =
    strip_read words more budgets saves strips files budget save strip all budget' save' strip' (λ set d. read_to_end n files budget save set all budget' save' strip' d) c
