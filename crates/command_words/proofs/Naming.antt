-- Words that are read to their end name files and options.
use Rattle.std.proofs.Common.{◌≡◌, ℕ, zero, suc, ◌<◌, ◌≤◌, length, true, false, Bool, List, [], ◌∷◌, ◌++◌, Option, Some, None, cond, refl, sym, ◌∙◌, ap, ap₂, subst, arith, codes, append-nil, append_assoc, length-append}
use Rattle.std.specs.Prelude.{nat_lt, option_and_then}
use Rattle.std.specs.Str.{bytes_eq}
use Rattle.std.proofs.lemmas.Bool.Decides.{Decides-ltb}
use Rattle.std.proofs.lemmas.Slice.Eq.{bytes_eq-Decides}
use Rattle.command_words.specs.declared.arguments.Next.{Next}
use Rattle.command_words.specs.declared.arguments.Next.TheVariants.{Any, Budget, Save, File}
use Rattle.command_words.specs.Words.{IsPlain, Names, nothing, only_files, a_file, a_budget, joined_budget, a_save, joined_save, a_strip}
use Rattle.command_words.specs.Reading.{Arguments, after, begins_option, number_in, value_behind, with_budget, with_file, with_image, with_other, with_save, with_strip, with_value}
use Rattle.command_words.proofs.Fronts.{is_front}
use Rattle.command_words.proofs.Completing.{state, BudgetStep, budget_stays, budget_set, SaveStep, save_stays, save_set, StripStep, strip_stays, strip_set, Comes}

-- what the words name that were read to this end
pub record Named (files : List (List ℕ)) (budget : Option ℕ) (save : Option (List ℕ)) (strip : Bool) (words : List (List ℕ)) (end : Arguments) : Type 0 where
  pub files' : List (List ℕ)
  pub budgets : List (List ℕ)
  pub saves : List (List ℕ)
  pub strips : ℕ
  pub names : Names words files' budgets saves strips
  pub comes : Comes files budget save strip files' budgets saves strips end.files end.budget end.save end.strip

-- the same where the value of an option stands first, and is read so
pub record NamedBehind (reads : List ℕ → List (List ℕ) → List (List ℕ) → List (List ℕ) → ℕ → Type 0) (words : List (List ℕ)) : Type 0 where
  pub value : List ℕ
  pub words' : List (List ℕ)
  pub are : words ≡ value ∷ words'
  pub files' : List (List ℕ)
  pub budgets : List (List ℕ)
  pub saves : List (List ℕ)
  pub strips : ℕ
  pub names : Names words' files' budgets saves strips
  pub comes : reads value files' budgets saves strips

-- that of `--budget`
abbrev pub NamedBudget : (files : List (List ℕ)) (budget : Option ℕ) (save : Option (List ℕ)) (strip : Bool) (words : List (List ℕ)) (end : Arguments) → Type 0
NamedBudget files budget save strip words end = NamedBehind (λ digits files' budgets saves strips. Comes files budget save strip files' (digits ∷ budgets) saves strips end.files end.budget end.save end.strip) words

-- and that of `--save`
abbrev pub NamedSave : (files : List (List ℕ)) (budget : Option ℕ) (save : Option (List ℕ)) (strip : Bool) (words : List (List ℕ)) (end : Arguments) → Type 0
NamedSave files budget save strip words end = NamedBehind (λ image files' budgets saves strips. Comes files budget save strip files' budgets (image ∷ saves) strips end.files end.budget end.save end.strip) words

abbrev pub NamedFrom : Next → (files : List (List ℕ)) (budget : Option ℕ) (save : Option (List ℕ)) (strip : Bool) (words : List (List ℕ)) (end : Arguments) → Type 0
NamedFrom Any files budget save strip words end = Named files budget save strip words end
NamedFrom Budget files budget save strip words end = NamedBudget files budget save strip words end
NamedFrom Save files budget save strip words end = NamedSave files budget save strip words end
NamedFrom File files budget save strip words end = Comes files budget save strip words [] [] zero end.files end.budget end.save end.strip

-- how the words that follow were read
abbrev Further : (words : List (List ℕ)) (end : Arguments) → Type 0
Further words end = (next : Next) (files : List (List ℕ)) (budget : Option ℕ) (save : Option (List ℕ)) (strip : Bool) → length files ≤ 2 → after (state files budget save strip next) words ≡ Some end → NamedFrom next files budget save strip words end

nothing_more : (end : Arguments) (next : Next) (files : List (List ℕ)) (budget : Option ℕ) (save : Option (List ℕ)) (strip : Bool) → length files ≤ 2 → Some (state files budget save strip next) ≡ Some end → Comes files budget save strip [] [] [] zero end.files end.budget end.save end.strip
nothing_more end next files budget save strip few e =
    let same : state files budget save strip next ≡ end = cc in
    subst (λ (a : Arguments). Comes files budget save strip [] [] [] zero a.files a.budget a.save a.strip) same
    (record { all_files = sym (append-nil files); few = few; has_budget = budget_stays; has_save = save_stays; has_strip = strip_stays })

longer : (files : List (List ℕ)) (word : List ℕ) → nat_lt (length files) 2 ≡ true → length (files ++ word ∷ []) ≤ 2
longer files word t = let below : length files < 2 = (Decides-ltb (length files) 2).0 t in omega (arith, below, length-append files (word ∷ []))

with_first : {files : List (List ℕ)} {budget : Option ℕ} {save : Option (List ℕ)} {strip : Bool} {files' budgets saves : List (List ℕ)} {strips : ℕ} {all : List (List ℕ)} {budget' : Option ℕ} {save' : Option (List ℕ)} {strip' : Bool} (word : List ℕ)
    → Comes (files ++ word ∷ []) budget save strip files' budgets saves strips all budget' save' strip' → Comes files budget save strip (word ∷ files') budgets saves strips all budget' save' strip'
with_first {files = files} {files' = more} word c =
    record { all_files = c.all_files ∙ append_assoc files (word ∷ []) more; few = c.few; has_budget = c.has_budget; has_save = c.has_save; has_strip = c.has_strip }

set_then : {n : ℕ} {budgets : List (List ℕ)} {budget' : Option ℕ} (digits : List ℕ) → number_in digits ≡ Some n → BudgetStep (Some n) budgets budget' → BudgetStep None (digits ∷ budgets) budget'
set_then digits e budget_stays = budget_set e

save_then : {image : List ℕ} {saves : List (List ℕ)} {save' : Option (List ℕ)} → SaveStep (Some image) saves save' → SaveStep None (image ∷ saves) save'
save_then save_stays = save_set

strip_then : {strips : ℕ} {strip' : Bool} → StripStep true strips strip' → StripStep false (suc strips) strip'
strip_then strip_stays = strip_set

plain : (word : List ℕ) → begins_option word ≡ false → IsPlain word
plain word e rest is = let first : begins_option word ≡ true = ap begins_option is in absurd (cc)

module _ (word : List ℕ) (words : List (List ℕ)) (end : Arguments) (further : Further words end) where
  -- the word is a file
  is_file : (t : Bool) (next : Next) (files : List (List ℕ)) (budget : Option ℕ) (save : Option (List ℕ)) (strip : Bool) → nat_lt (length files) 2 ≡ t
      → option_and_then (λ b. after b words) (cond t (Some (state (files ++ word ∷ []) budget save strip next)) None) ≡ Some end → NamedFrom next (files ++ word ∷ []) budget save strip words end
  is_file true next files budget save strip t e = further next (files ++ word ∷ []) budget save strip (longer files word t) e
  is_file false next files budget save strip t e = absurd (cc)

  file_before : (t : Bool) (files : List (List ℕ)) (budget : Option ℕ) (save : Option (List ℕ)) (strip : Bool) → nat_lt (length files) 2 ≡ t → IsPlain word
      → option_and_then (λ b. after b words) (cond t (Some (state (files ++ word ∷ []) budget save strip Any)) None) ≡ Some end → Named files budget save strip (word ∷ words) end
  file_before t files budget save strip test is e =
      let n : Named (files ++ word ∷ []) budget save strip words end = is_file t Any files budget save strip test e in
      record { files' = word ∷ n.files'; budgets = n.budgets; saves = n.saves; strips = n.strips; names = a_file word is n.names; comes = with_first word n.comes }

  file_behind : (t : Bool) (files : List (List ℕ)) (budget : Option ℕ) (save : Option (List ℕ)) (strip : Bool) → nat_lt (length files) 2 ≡ t
      → option_and_then (λ b. after b words) (cond t (Some (state (files ++ word ∷ []) budget save strip File)) None) ≡ Some end → Comes files budget save strip (word ∷ words) [] [] zero end.files end.budget end.save end.strip
  file_behind t files budget save strip test e = with_first word (is_file t File files budget save strip test e)

  -- the digits are the value of `--budget`
  is_budget : (digits : List ℕ) (m : Option ℕ) (next : Next) (files : List (List ℕ)) (budget : Option ℕ) (save : Option (List ℕ)) (strip : Bool) → number_in digits ≡ m → length files ≤ 2
      → option_and_then (λ b. after b words) (with_budget m (state files budget save strip next)) ≡ Some end
      → (n : Named files m save strip words end) × Comes files budget save strip n.files' (digits ∷ n.budgets) n.saves n.strips end.files end.budget end.save end.strip
  is_budget digits None next files budget save strip m few e = absurd (cc)
  is_budget digits (Some n) next files (Some other) save strip m few e = absurd (cc)
  is_budget digits (Some n) next files None save strip m few e =
      let k : Named files (Some n) save strip words end = further Any files (Some n) save strip few e in
      let c = k.comes in
      (k, record { all_files = c.all_files; few = c.few; has_budget = set_then digits m c.has_budget; has_save = c.has_save; has_strip = c.has_strip })

  -- the image is the value of `--save`
  is_save : (image : List ℕ) (next : Next) (files : List (List ℕ)) (budget : Option ℕ) (save : Option (List ℕ)) (strip : Bool) → length files ≤ 2
      → option_and_then (λ b. after b words) (with_save image (state files budget save strip next)) ≡ Some end
      → (n : Named files budget (Some image) strip words end) × Comes files budget save strip n.files' n.budgets (image ∷ n.saves) n.strips end.files end.budget end.save end.strip
  is_save image next files budget (Some other) strip few e = absurd (cc)
  is_save image next files budget None strip few e =
      let k : Named files budget (Some image) strip words end = further Any files budget (Some image) strip few e in
      let c = k.comes in
      (k, record { all_files = c.all_files; few = c.few; has_budget = c.has_budget; has_save = save_then c.has_save; has_strip = c.has_strip })

  is_strip : (files : List (List ℕ)) (budget : Option ℕ) (save : Option (List ℕ)) (strip : Bool) → word ≡ codes "--strip" → length files ≤ 2
      → option_and_then (λ b. after b words) (with_strip (state files budget save strip Any)) ≡ Some end → Named files budget save strip (word ∷ words) end
  is_strip files budget save true is few e = absurd (cc)
  is_strip files budget save false is few e =
      let n : Named files budget save true words end = further Any files budget save true few e in
      let c = n.comes in
      record {
        files' = n.files';
        budgets = n.budgets;
        saves = n.saves;
        strips = suc n.strips;
        names = subst (λ w. Names (w ∷ words) n.files' n.budgets n.saves (suc n.strips)) (sym is) (a_strip n.names);
        comes = record { all_files = c.all_files; few = c.few; has_budget = c.has_budget; has_save = c.has_save; has_strip = strip_then c.has_strip };
      }

  by_hyphen : (h : Bool) (files : List (List ℕ)) (budget : Option ℕ) (save : Option (List ℕ)) (strip : Bool) → begins_option word ≡ h
      → option_and_then (λ b. after b words) (cond h None (with_file word (state files budget save strip Any))) ≡ Some end → Named files budget save strip (word ∷ words) end
  by_hyphen true files budget save strip h e = absurd (cc)
  by_hyphen false files budget save strip h e = file_before (nat_lt (length files) 2) files budget save strip refl (plain word h) e

  by_image : (v : Option (List ℕ)) (files : List (List ℕ)) (budget : Option ℕ) (save : Option (List ℕ)) (strip : Bool) → value_behind (codes "--save=") word ≡ v → length files ≤ 2
      → option_and_then (λ b. after b words) (with_image v word (state files budget save strip Any)) ≡ Some end → Named files budget save strip (word ∷ words) end
  by_image None files budget save strip v few e = by_hyphen (begins_option word) files budget save strip refl e
  by_image (Some image) files budget save strip v few e =
      let r = is_save image Any files budget save strip few e in
      let n = r.0 in
      record {
        files' = n.files';
        budgets = n.budgets;
        saves = image ∷ n.saves;
        strips = n.strips;
        names = subst (λ w. Names (w ∷ words) n.files' n.budgets (image ∷ n.saves) n.strips) (sym (is_front (codes "--save=") word image v)) (joined_save image n.names);
        comes = r.1;
      }

  by_value : (v : Option (List ℕ)) (files : List (List ℕ)) (budget : Option ℕ) (save : Option (List ℕ)) (strip : Bool) → value_behind (codes "--budget=") word ≡ v → length files ≤ 2
      → option_and_then (λ b. after b words) (with_value v word (state files budget save strip Any)) ≡ Some end → Named files budget save strip (word ∷ words) end
  by_value None files budget save strip v few e = by_image (value_behind (codes "--save=") word) files budget save strip refl few e
  by_value (Some digits) files budget save strip v few e =
      let r = is_budget digits (number_in digits) Any files budget save strip refl few e in
      let n = r.0 in
      record {
        files' = n.files';
        budgets = digits ∷ n.budgets;
        saves = n.saves;
        strips = n.strips;
        names = subst (λ w. Names (w ∷ words) n.files' (digits ∷ n.budgets) n.saves n.strips) (sym (is_front (codes "--budget=") word digits v)) (joined_budget digits n.names);
        comes = r.1;
      }

  by_name : (t u v s : Bool) (files : List (List ℕ)) (budget : Option ℕ) (save : Option (List ℕ)) (strip : Bool) → bytes_eq word (codes "--") ≡ t → bytes_eq word (codes "--budget") ≡ u → bytes_eq word (codes "--save") ≡ v → bytes_eq word (codes "--strip") ≡ s → length files ≤ 2
      → option_and_then (λ b. after b words)
      (cond t (Some (state files budget save strip File))
      (cond u (Some (state files budget save strip Budget)) (cond v (Some (state files budget save strip Save)) (cond s (with_strip (state files budget save strip Any)) (with_other word (state files budget save strip Any)))))) ≡ Some end
      → Named files budget save strip (word ∷ words) end
  by_name true u v s files budget save strip t u' v' s' few e =
      let is : word ≡ codes "--" = (bytes_eq-Decides word (codes "--")).0 t in
      record {
        files' = words;
        budgets = [];
        saves = [];
        strips = zero;
        names = subst (λ w. Names (w ∷ words) words [] [] zero) (sym is) (only_files words);
        comes = further File files budget save strip few e;
      }
  by_name false true v s files budget save strip t u v' s' few e =
      let is : word ≡ codes "--budget" = (bytes_eq-Decides word (codes "--budget")).0 u in
      let n : NamedBudget files budget save strip words end = further Budget files budget save strip few e in
      record {
        files' = n.files';
        budgets = n.value ∷ n.budgets;
        saves = n.saves;
        strips = n.strips;
        names = subst (λ ws. Names ws n.files' (n.value ∷ n.budgets) n.saves n.strips) (sym (ap₂ (λ w ws. w ∷ ws) is n.are)) (a_budget n.value n.names);
        comes = n.comes;
      }
  by_name false false true s files budget save strip t u v s' few e =
      let is : word ≡ codes "--save" = (bytes_eq-Decides word (codes "--save")).0 v in
      let n : NamedSave files budget save strip words end = further Save files budget save strip few e in
      record {
        files' = n.files';
        budgets = n.budgets;
        saves = n.value ∷ n.saves;
        strips = n.strips;
        names = subst (λ ws. Names ws n.files' n.budgets (n.value ∷ n.saves) n.strips) (sym (ap₂ (λ w ws. w ∷ ws) is n.are)) (a_save n.value n.names);
        comes = n.comes;
      }
  by_name false false false true files budget save strip t u v s few e = is_strip files budget save strip ((bytes_eq-Decides word (codes "--strip")).0 s) few e
  by_name false false false false files budget save strip t u v s few e = by_value (value_behind (codes "--budget=") word) files budget save strip refl few e

pub named : (words : List (List ℕ)) (end : Arguments) → Further words end
named [] end Any files budget save strip few e = record { files' = []; budgets = []; saves = []; strips = zero; names = nothing; comes = nothing_more end Any files budget save strip few e }
named [] end Budget files budget save strip few e = absurd (cc)
named [] end Save files budget save strip few e = absurd (cc)
named [] end File files budget save strip few e = nothing_more end File files budget save strip few e
named (word ∷ words) end Any files budget save strip few e =
    by_name word words end (named words end) (bytes_eq word (codes "--")) (bytes_eq word (codes "--budget")) (bytes_eq word (codes "--save")) (bytes_eq word (codes "--strip")) files budget save strip refl refl refl refl few e
named (word ∷ words) end Budget files budget save strip few e =
    let r = is_budget word words end (named words end) word (number_in word) Budget files budget save strip refl few e in
    let n = r.0 in
    record { value = word; words' = words; are = refl; files' = n.files'; budgets = n.budgets; saves = n.saves; strips = n.strips; names = n.names; comes = r.1 }
named (word ∷ words) end Save files budget save strip few e =
    let r = is_save word words end (named words end) word Save files budget save strip few e in
    let n = r.0 in
    record { value = word; words' = words; are = refl; files' = n.files'; budgets = n.budgets; saves = n.saves; strips = n.strips; names = n.names; comes = r.1 }
named (word ∷ words) end File files budget save strip few e = file_behind word words end (named words end) (nat_lt (length files) 2) files budget save strip refl e
