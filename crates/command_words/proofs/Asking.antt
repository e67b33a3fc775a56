-- Which command words ask for.
use Rattle.std.proofs.Common.{◌≡◌, ℕ, zero, length, true, false, Bool, List, [], ◌∷◌, Option, Some, None, cond, refl, sym, ◌∙◌, ap, subst, arith, codes, ◌&&◌}
use Rattle.std.specs.Prelude.{◌<◌, not, nat_le, nat_lt, option_and_then, option_map, unwrap_or, IfSome}
use Rattle.std.specs.Str.{bytes_eq}
use Rattle.std.proofs.lemmas.Bool.{leb-true, le-leb}
use Rattle.std.proofs.lemmas.Slice.Eq.{bytes_eq-Decides}
use Rattle.command_words.specs.declared.arguments.Next.{Next}
use Rattle.command_words.specs.declared.arguments.Next.TheVariants.{Any}
use Rattle.command_words.specs.Words.{Command, run, resume, check, compile, work, Names, BudgetOf, default_budget, named_budget, SaveOf, unsaved, saved, StripOf, kept, stripped, IsShortName, IsCommand, runs, resumes, checks, compiles, works, IsNumber, AreShort, AreWrong, IsAsked}
use Rattle.command_words.specs.Reading.{Arguments, after, checking, command_of, command_with, is_short, may_be_saved, no_arguments, number_in, count_in, unset, up_to, to_feed, to_run, to_resume, to_check, to_compile, to_work, working}
use Rattle.command_words.proofs.Numbers.{number_is, is_number}
use Rattle.command_words.proofs.Completing.{state, BudgetStep, budget_stays, budget_set, SaveStep, save_stays, save_set, StripStep, strip_stays, strip_set, read_to_end}
use Rattle.command_words.proofs.Naming.{Named, named}

-- a command from what its words name

short : (file : List ℕ) → is_short file ≡ true → IsShortName file
short file e = leb-true (length file) 65536 e

is_short' : (file : List ℕ) → IsShortName file → is_short file ≡ true
is_short' file h = le-leb (length file) 65536 h

budget_of : {budgets : List (List ℕ)} {budget : Option ℕ} → BudgetStep None budgets budget → BudgetOf budgets (unwrap_or budget 10000000)
budget_of budget_stays = default_budget
budget_of (budget_set {digits = digits} {budget = n} e) = named_budget digits n (is_number digits n e)

strip_of : {strips : ℕ} {strip : Bool} → StripStep false strips strip → StripOf strips strip
strip_of strip_stays = kept
strip_of strip_set = stripped

no_strip : {strips : ℕ} → StripStep false strips false → strips ≡ zero
no_strip strip_stays = refl

no_budget : {budgets : List (List ℕ)} → BudgetStep None budgets None → budgets ≡ []
no_budget budget_stays = refl

no_save : {saves : List (List ℕ)} → SaveStep None saves None → saves ≡ []
no_save save_stays = refl

not_empty : (image : List ℕ) → nat_lt 0 (length image) ≡ true → 0 < length image
not_empty image e = leb-true 1 (length image) e

not_empty' : (image : List ℕ) → 0 < length image → nat_lt 0 (length image) ≡ true
not_empty' image h = le-leb 1 (length image) h

both : (a b : Bool) → (a && b) ≡ true → (a ≡ true) × (b ≡ true)
both true b e = (refl, e)
both false b e = absurd (cc)

save_of : {saves : List (List ℕ)} {save : Option (List ℕ)} → SaveStep None saves save → may_be_saved save ≡ true → SaveOf saves save
save_of save_stays e = unsaved
save_of (save_set {image = image}) e = let h = both (is_short image) (nat_lt 0 (length image)) e in saved image (short image h.0) (not_empty image h.1)

-- what the words behind a command's name name
module _ (words budgets saves : List (List ℕ)) (strips : ℕ) (next : Next) (command : Command) where
  -- of `run` and `resume`, made by `made`
  module _ (name : List ℕ) (made : List ℕ → ℕ → Option (List ℕ) → Command)
      (is_made : (file : List ℕ) (budget : ℕ) (save : Option (List ℕ)) → Names words (file ∷ []) budgets saves zero → IsShortName file → BudgetOf budgets budget → SaveOf saves save → IsCommand (name ∷ words) (made file budget save)) where
    feed_short : (t u : Bool) (file : List ℕ) (budget : Option ℕ) (save : Option (List ℕ)) → is_short file ≡ t → may_be_saved save ≡ u → Names words (file ∷ []) budgets saves strips → BudgetStep None budgets budget → SaveStep None saves save → strips ≡ zero
        → cond (t && u) (Some (made file (unwrap_or budget 10000000) save)) None ≡ Some command → IsCommand (name ∷ words) command
    feed_short true true file budget save t u n b v s e =
        let is : made file (unwrap_or budget 10000000) save ≡ command = cc in
        subst (IsCommand (name ∷ words)) is (is_made file (unwrap_or budget 10000000) save (subst (Names words (file ∷ []) budgets saves) s n) (short file t) (budget_of b) (save_of v u))
    feed_short true false file budget save t u n b v s e = absurd (cc)
    feed_short false u file budget save t u' n b v s e = absurd (cc)

    feed_asked : (files : List (List ℕ)) (budget : Option ℕ) (save : Option (List ℕ)) (strip : Bool) → Names words files budgets saves strips → BudgetStep None budgets budget → SaveStep None saves save → StripStep false strips strip
        → to_feed made (state files budget save strip next) ≡ Some command → IsCommand (name ∷ words) command
    feed_asked files budget save true n b v s e = absurd (cc)
    feed_asked [] budget save false n b v s e = absurd (cc)
    feed_asked (file ∷ []) budget save false n b v s e = feed_short (is_short file) (may_be_saved save) file budget save refl refl n b v (no_strip s) e
    feed_asked (file ∷ other ∷ files) budget save false n b v s e = absurd (cc)

  compile_short : (t u : Bool) (script chunk : List ℕ) (strip : Bool) → is_short script ≡ t → is_short chunk ≡ u → Names words (script ∷ chunk ∷ []) budgets saves strips → budgets ≡ [] → saves ≡ [] → StripStep false strips strip
      → cond (t && u) (Some (compile script chunk strip)) None ≡ Some command → IsCommand (codes "compile" ∷ words) command
  compile_short true true script chunk strip t u n b v s e =
      let is : compile script chunk strip ≡ command = cc in
      subst (IsCommand (codes "compile" ∷ words)) is
      (compiles words script chunk strips strip (subst (λ vs. Names words (script ∷ chunk ∷ []) [] vs strips) v (subst (λ bs. Names words (script ∷ chunk ∷ []) bs saves strips) b n)) (short script t) (short chunk u) (strip_of s))
  compile_short true false script chunk strip t u n b v s e = absurd (cc)
  compile_short false u script chunk strip t u' n b v s e = absurd (cc)

  compile_asked : (files : List (List ℕ)) (budget : Option ℕ) (save : Option (List ℕ)) (strip : Bool) → Names words files budgets saves strips → BudgetStep None budgets budget → SaveStep None saves save → StripStep false strips strip
      → to_compile (state files budget save strip next) ≡ Some command → IsCommand (codes "compile" ∷ words) command
  compile_asked files (Some budget) save strip n b v s e = absurd (cc)
  compile_asked files None (Some save) strip n b v s e = absurd (cc)
  compile_asked [] None None strip n b v s e = absurd (cc)
  compile_asked (script ∷ []) None None strip n b v s e = absurd (cc)
  compile_asked (script ∷ chunk ∷ []) None None strip n b v s e = compile_short (is_short script) (is_short chunk) script chunk strip refl refl n (no_budget b) (no_save v) s e
  compile_asked (script ∷ chunk ∷ other ∷ files) None None strip n b v s e = absurd (cc)

-- of `check` and `work`, which name one word and no option
module _ (words budgets saves : List (List ℕ)) (strips : ℕ) (command : Command) (name : List ℕ) (asking : List (List ℕ) → Option Command)
    (is_asked : (word : List ℕ) → Names words (word ∷ []) [] [] zero → asking (word ∷ []) ≡ Some command → IsCommand (name ∷ words) command)
    (none : asking [] ≡ None) (many : (one other : List ℕ) (files : List (List ℕ)) → asking (one ∷ other ∷ files) ≡ None) where
  lone_names : (word : List ℕ) → Names words (word ∷ []) budgets saves strips → budgets ≡ [] → saves ≡ [] → strips ≡ zero → Names words (word ∷ []) [] [] zero
  lone_names word n b v s = subst (λ vs. Names words (word ∷ []) [] vs zero) v (subst (λ bs. Names words (word ∷ []) bs saves zero) b (subst (Names words (word ∷ []) budgets saves) s n))

  lone_asked : (files : List (List ℕ)) (budget : Option ℕ) (save : Option (List ℕ)) (strip : Bool) → Names words files budgets saves strips → BudgetStep None budgets budget → SaveStep None saves save → StripStep false strips strip
      → cond (not strip && unset budget save) (asking files) None ≡ Some command → IsCommand (name ∷ words) command
  lone_asked files budget save true n b v s e = absurd (cc)
  lone_asked files (Some budget) save false n b v s e = absurd (cc)
  lone_asked files None (Some save) false n b v s e = absurd (cc)
  lone_asked [] None None false n b v s e = let bad : None ≡ Some command = sym none ∙ e in absurd (cc)
  lone_asked (word ∷ []) None None false n b v s e = is_asked word (lone_names word n (no_budget b) (no_save v) (no_strip s)) e
  lone_asked (word ∷ other ∷ files) None None false n b v s e = let bad : None ≡ Some command = sym (many word other files) ∙ e in absurd (cc)

module _ (words : List (List ℕ)) (command : Command) where
  check_short : (t : Bool) (file : List ℕ) → is_short file ≡ t → Names words (file ∷ []) [] [] zero → cond t (Some (check file)) None ≡ Some command → IsCommand (codes "check" ∷ words) command
  check_short true file t n e = let is : check file ≡ command = cc in subst (IsCommand (codes "check" ∷ words)) is (checks words file n (short file t))
  check_short false file t n e = absurd (cc)

  work_within : (t : Bool) (digits : List ℕ) (number : ℕ) → nat_le number 10000 ≡ t → IsNumber digits number → Names words (digits ∷ []) [] [] zero → option_map work (cond t (Some number) None) ≡ Some command → IsCommand (codes "work" ∷ words) command
  work_within true digits number t d n e = let is : work number ≡ command = cc in subst (IsCommand (codes "work" ∷ words)) is (works words digits number n d (leb-true number 10000 t))
  work_within false digits number t d n e = absurd (cc)

  work_number : (number : Option ℕ) (digits : List ℕ) → number_in digits ≡ number → Names words (digits ∷ []) [] [] zero → option_map work (up_to 10000 number) ≡ Some command → IsCommand (codes "work" ∷ words) command
  work_number (Some number) digits is n e = work_within (nat_le number 10000) digits number refl (is_number digits number is) n e
  work_number None digits is n e = absurd (cc)

module _ (words : List (List ℕ)) (command : Command) (end : Arguments) (n : Named [] None None false words end) where
  all_named : Names words end.files n.budgets n.saves n.strips
  all_named = subst (λ fs. Names words fs n.budgets n.saves n.strips) (sym n.comes.all_files) n.names

  asked_run : to_run end ≡ Some command → IsCommand (codes "run" ∷ words) command
  asked_run e =
      feed_asked words n.budgets n.saves n.strips end.next command (codes "run") run (λ file budget save k f b v. runs words n.budgets n.saves file budget save k f b v)
      end.files end.budget end.save end.strip all_named n.comes.has_budget n.comes.has_save n.comes.has_strip e

  asked_resume : to_resume end ≡ Some command → IsCommand (codes "resume" ∷ words) command
  asked_resume e =
      feed_asked words n.budgets n.saves n.strips end.next command (codes "resume") resume (λ file budget save k f b v. resumes words n.budgets n.saves file budget save k f b v)
      end.files end.budget end.save end.strip all_named n.comes.has_budget n.comes.has_save n.comes.has_strip e

  asked_check : to_check end ≡ Some command → IsCommand (codes "check" ∷ words) command
  asked_check e =
      lone_asked words n.budgets n.saves n.strips command (codes "check") checking (λ file k found. check_short words command (is_short file) file refl k found) refl (λ one other files. refl)
      end.files end.budget end.save end.strip all_named n.comes.has_budget n.comes.has_save n.comes.has_strip e

  asked_compile : to_compile end ≡ Some command → IsCommand (codes "compile" ∷ words) command
  asked_compile e = compile_asked words n.budgets n.saves n.strips end.next command end.files end.budget end.save end.strip all_named n.comes.has_budget n.comes.has_save n.comes.has_strip e

  asked_work : to_work end ≡ Some command → IsCommand (codes "work" ∷ words) command
  asked_work e =
      lone_asked words n.budgets n.saves n.strips command (codes "work") working (λ digits k found. work_number words command (number_in digits) digits refl k found) refl (λ one other files. refl)
      end.files end.budget end.save end.strip all_named n.comes.has_budget n.comes.has_save n.comes.has_strip e

module _ (name : List ℕ) (words : List (List ℕ)) (command : Command) where
  named_so : (text : List ℕ) → bytes_eq name text ≡ true → IsCommand (text ∷ words) command → IsCommand (name ∷ words) command
  named_so text e h = subst (λ w. IsCommand (w ∷ words) command) (sym ((bytes_eq-Decides name text).0 e)) h

  by_name : (end : Arguments) → Named [] None None false words end → (r m c o w : Bool) → bytes_eq name (codes "run") ≡ r → bytes_eq name (codes "resume") ≡ m → bytes_eq name (codes "check") ≡ c → bytes_eq name (codes "compile") ≡ o → bytes_eq name (codes "work") ≡ w
      → cond r (to_run end) (cond m (to_resume end) (cond c (to_check end) (cond o (to_compile end) (cond w (to_work end) None)))) ≡ Some command → IsCommand (name ∷ words) command
  by_name end n true m c o w r m' c' o' w' e = named_so (codes "run") r (asked_run words command end n e)
  by_name end n false true c o w r m c' o' w' e = named_so (codes "resume") m (asked_resume words command end n e)
  by_name end n false false true o w r m c o' w' e = named_so (codes "check") c (asked_check words command end n e)
  by_name end n false false false true w r m c o w' e = named_so (codes "compile") o (asked_compile words command end n e)
  by_name end n false false false false true r m c o w e = named_so (codes "work") w (asked_work words command end n e)
  by_name end n false false false false false r m c o w e = absurd (cc)

  by_end : (end : Option Arguments) → after no_arguments words ≡ end → option_and_then (command_with name) end ≡ Some command → IsCommand (name ∷ words) command
  by_end None is e = absurd (cc)
  by_end (Some end) is e =
      by_name end (named words end Any [] None None false (omega arith) is) (bytes_eq name (codes "run")) (bytes_eq name (codes "resume")) (bytes_eq name (codes "check")) (bytes_eq name (codes "compile")) (bytes_eq name (codes "work")) refl refl refl refl refl e

pub is_command : (words : List (List ℕ)) (command : Command) → command_of words ≡ Some command → IsCommand words command
is_command [] command e = absurd (cc)
is_command (name ∷ words) command e = by_end name words command (after no_arguments words) refl e

-- what words name from a command

record Budgeted (budgets : List (List ℕ)) (n : ℕ) : Type 0 where
  pub budget : Option ℕ
  pub step : BudgetStep None budgets budget
  pub is : unwrap_or budget 10000000 ≡ n

budgeted : {budgets : List (List ℕ)} {n : ℕ} → BudgetOf budgets n → Budgeted budgets n
budgeted default_budget = record { budget = None; step = budget_stays; is = refl }
budgeted (named_budget digits n h) = record { budget = Some n; step = budget_set (number_is digits n h); is = refl }

record Saved (saves : List (List ℕ)) (save : Option (List ℕ)) : Type 0 where
  pub step : SaveStep None saves save
  pub fits : may_be_saved save ≡ true

saves_to : {saves : List (List ℕ)} {save : Option (List ℕ)} → SaveOf saves save → Saved saves save
saves_to unsaved = record { step = save_stays; fits = refl }
saves_to (saved image h k) = record { step = save_set; fits = rw (is_short' image h) (not_empty' image k) }

-- the words of `run` and `resume` are read to their end
record Fed (words : List (List ℕ)) (file : List ℕ) (n : ℕ) (save : Option (List ℕ)) : Type 0 where
  pub budget : Option ℕ
  pub next : Next
  pub reached : after no_arguments words ≡ Some (state (file ∷ []) budget save false next)
  pub is : unwrap_or budget 10000000 ≡ n
  pub fits : may_be_saved save ≡ true

fed : {words budgets saves : List (List ℕ)} {file : List ℕ} {n : ℕ} {save : Option (List ℕ)} → Names words (file ∷ []) budgets saves zero → BudgetOf budgets n → SaveOf saves save → Fed words file n save
fed {file = file} {save = save} names b v =
    let c = budgeted b in
    let d = saves_to v in
    let r = read_to_end names [] None None false (file ∷ []) c.budget save false (record { all_files = refl; few = omega arith; has_budget = c.step; has_save = d.step; has_strip = strip_stays }) in
    record { budget = c.budget; next = r.next; reached = r.reached; is = c.is; fits = d.fits }

strip_step : {strips : ℕ} {strip : Bool} → StripOf strips strip → StripStep false strips strip
strip_step kept = strip_stays
strip_step stripped = strip_set

pub asks : {words : List (List ℕ)} {command : Command} → IsCommand words command → command_of words ≡ Some command
asks (runs words budgets saves file n save names fits b v) =
    let f = fed names b v in
    let fits_too = f.fits in
    ap (option_and_then (command_with (codes "run"))) f.reached ∙ rw (is_short' file fits, fits_too) (ap (λ k. Some (run file k save)) f.is)
asks (resumes words budgets saves image n save names fits b v) =
    let f = fed names b v in
    let fits_too = f.fits in
    ap (option_and_then (command_with (codes "resume"))) f.reached ∙ rw (is_short' image fits, fits_too) (ap (λ k. Some (resume image k save)) f.is)
asks (checks words file names fits) =
    let r = read_to_end names [] None None false (file ∷ []) None None false (record { all_files = refl; few = omega arith; has_budget = budget_stays; has_save = save_stays; has_strip = strip_stays }) in
    ap (option_and_then (command_with (codes "check"))) r.reached ∙ rw (is_short' file fits) refl
asks (compiles words script chunk strips strip names fits fits' s) =
    let r = read_to_end names [] None None false (script ∷ chunk ∷ []) None None strip (record { all_files = refl; few = omega arith; has_budget = budget_stays; has_save = save_stays; has_strip = strip_step s }) in
    ap (option_and_then (command_with (codes "compile"))) r.reached ∙ rw (is_short' script fits, is_short' chunk fits') refl
asks (works words digits count names d few) =
    let r = read_to_end names [] None None false (digits ∷ []) None None false (record { all_files = refl; few = omega arith; has_budget = budget_stays; has_save = save_stays; has_strip = strip_stays }) in
    ap (option_and_then (command_with (codes "work"))) r.reached ∙ ap (λ number. option_map work (up_to 10000 number)) (number_is digits count d) ∙ rw (le-leb count 10000 few) refl

pub is_wrong : (words : List (List ℕ)) → command_of words ≡ None → AreWrong words
is_wrong words e command h = let a : command_of words ≡ Some command = asks h in absurd (cc)

-- what words ask for is one thing
pub asked_is_one : (words : List (List ℕ)) (a b : Option Command) → IsAsked words a → IsAsked words b → a ≡ b
asked_is_one words (Some a) (Some b) h k = sym (asks h) ∙ asks k
asked_is_one words (Some a) None h k = absurd (k a h)
asked_is_one words None (Some b) h k = absurd (h b k)
asked_is_one words None None h k = refl

short_save : {saves : List (List ℕ)} {save : Option (List ℕ)} → SaveOf saves save → IfSome save IsShortName
short_save unsaved = tt
short_save (saved image h k) = h

pub are_short : {words : List (List ℕ)} {command : Command} → IsCommand words command → AreShort command
are_short (runs words budgets saves file n save names fits b v) = (fits, short_save v)
are_short (resumes words budgets saves image n save names fits b v) = (fits, short_save v)
are_short (checks words file names fits) = fits
are_short (compiles words script chunk strips strip names fits fits' s) = (fits, fits')
are_short (works words digits count names d few) = (d.positive, few)

-- what is answered of words
pub command_answered : {T : Type 0} (shown : T → Command) (words : List (List ℕ)) (r : Option T) → option_map shown r ≡ command_of words → IfSome r (λ t. IsCommand words (shown t))
command_answered shown words None e = tt
command_answered shown words (Some t) e = is_command words (shown t) (sym e)

pub short_answered : {T : Type 0} (shown : T → Command) (words : List (List ℕ)) (r : Option T) → option_map shown r ≡ command_of words → IfSome r (λ t. AreShort (shown t))
short_answered shown words None e = tt
short_answered shown words (Some t) e = are_short (is_command words (shown t) (sym e))
