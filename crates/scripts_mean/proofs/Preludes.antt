-- The functions that a text defines, their code, and the world of the libraries with them.
use Rattle.std.proofs.Common.{◌≡◌, ℕ, zero, ◌≤◌, Bool, List, [], ◌∷◌, ◌++◌, length, None, refl, sym, ◌∙◌, ap, subst}
use Rattle.std.specs.Prelude.{IsTrue, false, nat_le, map}
use Rattle.std.specs.List.{list_all}
use Rattle.int_core.specs.Value.{greatest_string}
use Rattle.tree_core.specs.Tree.{Block, Falls, Returns, Body, BodyOf, Stats, EndStats, MoreStats, Stat, Local, LocalFunction, Assign, CallStat, Do, While, Repeat, If, IfElse, NumFor, NumForStep, GenFor, Arms, EndArms, MoreArms, Exp, Function, Index, Call, Method, Unary, Binary, And, Or, Paren, Table, Exps, EndExps, MoreExps, Fields, EndFields, MoreFields, Field, Item, Keyed}
use Rattle.scope_core.specs.Places.{placed}
use Rattle.code_core.specs.Prototype.{Prototypes, none, more, Prototype, prototypes, list_of}
use Rattle.code_core.specs.Check.{IsChecked, AllChecked}
use Rattle.code_of.specs.CodeOf.{code_of}
use Rattle.code_parts.specs.Bodies.{exp_bodies, exps_bodies, fields_bodies, field_bodies, stat_bodies, arms_bodies, stats_bodies, block_bodies}
use Rattle.code_parts.proofs.Compiling.{inner_compiled}
use Rattle.stat_laws.specs.Fits.{BodyFits, InExp, InExps, InFields, InField, InStat, InArms, InStats, InBlock}
use Rattle.library_rows.specs.Library.{Library, Entry}
use Rattle.library_rows.specs.PreludeText.{prelude_functions}
use Rattle.lua_meaning.specs.Opening.{entries_of}
use Rattle.runs_alike.specs.Alike.{EntriesAlike}
use Rattle.source_laws.proofs.Checked.{source_checked}
use Rattle.source_laws.proofs.Meaning.{source_fits}
use Rattle.source_runs.proofs.Preludes.{entry_alike}
use Rattle.machine_sound.specs.Sound.{Each}
use Rattle.machine_sound.proofs.Lists.{each_none, each_cons, each_tail}
use Rattle.machine_sound.proofs.Values.{le_of, both_of}
use Rattle.machine_means.specs.Joined.{AllNamed, Named}
use Rattle.scripts_mean.specs.Scripts.{functions_in, PreludeIsAlike}
use Rattle.scripts_mean.proofs.Names.{code_named}

-- a body's code has the code of each function that the body makes

list_back : (codes : List Prototype) → list_of (prototypes codes) ≡ codes
list_back [] = refl
list_back (p ∷ codes) = ap (λ rest. p ∷ rest) (list_back codes)

codes_are : (body : Body) → list_of (code_of None body).inner ≡ map (code_of None) (functions_in body)
codes_are (BodyOf params vararg inner ups line) = ap list_of (inner_compiled None inner) ∙ list_back (map (code_of None) (block_bodies inner))

-- and each of them fits where the body does

abbrev AllFit : List Body → Type 0
AllFit [] = Unit {0}
AllFit (body ∷ bodies) = BodyFits None body × AllFit bodies

both_fit : (xs ys : List Body) → AllFit xs → AllFit ys → AllFit (xs ++ ys)
both_fit [] ys h k = k
both_fit (x ∷ xs) ys h k = (h.0, both_fit xs ys h.1 k)

mutual
  exp_fit : (p : Prototype) (x : Exp) (j : ℕ) → InExp None p x j → AllFit (exp_bodies x)
  exp_fit p (Function line body) j h = (h.1, tt)
  exp_fit p (Index line o k) j h = both_fit (exp_bodies o) (exp_bodies k) (exp_fit p o _ h.0) (exp_fit p k _ h.1)
  exp_fit p (Call line f es) j h = both_fit (exp_bodies f) (exps_bodies es) (exp_fit p f _ h.0) (exps_fit p es _ h.1)
  exp_fit p (Method line o name es) j h = both_fit (exp_bodies o) (exps_bodies es) (exp_fit p o _ h.0) (exps_fit p es _ h.1)
  exp_fit p (Unary line op e) j h = exp_fit p e _ h
  exp_fit p (Binary line op e d) j h = both_fit (exp_bodies e) (exp_bodies d) (exp_fit p e _ h.0) (exp_fit p d _ h.1)
  exp_fit p (And line e d) j h = both_fit (exp_bodies e) (exp_bodies d) (exp_fit p e _ h.0) (exp_fit p d _ h.1)
  exp_fit p (Or line e d) j h = both_fit (exp_bodies e) (exp_bodies d) (exp_fit p e _ h.0) (exp_fit p d _ h.1)
  exp_fit p (Paren line e) j h = exp_fit p e _ h
  exp_fit p (Table line fs) j h = fields_fit p fs _ h
  exp_fit p _ j h = tt

  exps_fit : (p : Prototype) (x : Exps) (j : ℕ) → InExps None p x j → AllFit (exps_bodies x)
  exps_fit p EndExps j h = tt
  exps_fit p (MoreExps e es) j h = both_fit (exp_bodies e) (exps_bodies es) (exp_fit p e _ h.0) (exps_fit p es _ h.1)

  fields_fit : (p : Prototype) (x : Fields) (j : ℕ) → InFields None p x j → AllFit (fields_bodies x)
  fields_fit p EndFields j h = tt
  fields_fit p (MoreFields f fs) j h = both_fit (field_bodies f) (fields_bodies fs) (field_fit p f _ h.0) (fields_fit p fs _ h.1)

  field_fit : (p : Prototype) (x : Field) (j : ℕ) → InField None p x j → AllFit (field_bodies x)
  field_fit p (Item e) j h = exp_fit p e _ h
  field_fit p (Keyed line e d) j h = both_fit (exp_bodies e) (exp_bodies d) (exp_fit p e _ h.0) (exp_fit p d _ h.1)

  stat_fit : (p : Prototype) (x : Stat) (j : ℕ) → InStat None p x j → AllFit (stat_bodies x)
  stat_fit p (Local line names es) j h = exps_fit p es _ h
  stat_fit p (LocalFunction line name body) j h = (h.1, tt)
  stat_fit p (Assign line ts es) j h = both_fit (exps_bodies ts) (exps_bodies es) (exps_fit p ts _ h.0) (exps_fit p es _ h.1)
  stat_fit p (CallStat line e) j h = exp_fit p e _ h
  stat_fit p (Do line b) j h = block_fit p b _ h
  stat_fit p (While line e b) j h = both_fit (exp_bodies e) (block_bodies b) (exp_fit p e _ h.0) (block_fit p b _ h.1)
  stat_fit p (Repeat line b e) j h = both_fit (block_bodies b) (exp_bodies e) (block_fit p b _ h.0) (exp_fit p e _ h.1)
  stat_fit p (If line a) j h = arms_fit p a _ h
  stat_fit p (IfElse line a b) j h = both_fit (arms_bodies a) (block_bodies b) (arms_fit p a _ h.0) (block_fit p b _ h.1)
  stat_fit p (NumFor line name e d b) j h =
      both_fit (exp_bodies e ++ exp_bodies d) (block_bodies b) (both_fit (exp_bodies e) (exp_bodies d) (exp_fit p e _ h.0) (exp_fit p d _ h.1.0)) (block_fit p b _ h.1.1)
  stat_fit p (NumForStep line name e d s b) j h =
      both_fit (exp_bodies e ++ exp_bodies d ++ exp_bodies s) (block_bodies b)
      (both_fit (exp_bodies e ++ exp_bodies d) (exp_bodies s) (both_fit (exp_bodies e) (exp_bodies d) (exp_fit p e _ h.0) (exp_fit p d _ h.1.0)) (exp_fit p s _ h.1.1.0)) (block_fit p b _ h.1.1.1)
  stat_fit p (GenFor line names es b) j h = both_fit (exps_bodies es) (block_bodies b) (exps_fit p es _ h.0) (block_fit p b _ h.1)
  stat_fit p _ j h = tt

  arms_fit : (p : Prototype) (x : Arms) (j : ℕ) → InArms None p x j → AllFit (arms_bodies x)
  arms_fit p EndArms j h = tt
  arms_fit p (MoreArms e b a) j h =
      both_fit (exp_bodies e ++ block_bodies b) (arms_bodies a) (both_fit (exp_bodies e) (block_bodies b) (exp_fit p e _ h.0) (block_fit p b _ h.1.0)) (arms_fit p a _ h.1.1)

  stats_fit : (p : Prototype) (x : Stats) (j : ℕ) → InStats None p x j → AllFit (stats_bodies x)
  stats_fit p EndStats j h = tt
  stats_fit p (MoreStats s ss) j h = both_fit (stat_bodies s) (stats_bodies ss) (stat_fit p s _ h.0) (stats_fit p ss _ h.1)

  block_fit : (p : Prototype) (x : Block) (j : ℕ) → InBlock None p x j → AllFit (block_bodies x)
  block_fit p (Falls ss tokens line) j h = stats_fit p ss _ h
  block_fit p (Returns ss es tokens line) j h = both_fit (stats_bodies ss) (exps_bodies es) (stats_fit p ss _ h.0) (exps_fit p es _ h.1)

body_fit : (body : Body) → BodyFits None body → AllFit (functions_in body)
body_fit (BodyOf params vararg inner ups line) h = block_fit (code_of None (BodyOf params vararg inner ups line)) inner 0 h.1

alike : (names : List (List ℕ × Library)) (bodies : List Body) → AllFit bodies → EntriesAlike (entries_of names bodies) (entries_of names (map (code_of None) bodies))
alike [] bodies fits = tt
alike (name ∷ names) [] fits = tt
alike (name ∷ names) (body ∷ bodies) fits = (entry_alike name.1 name.0 body fits.0, alike names bodies fits.1)

prelude_likens : (names : List (List ℕ × Library)) (main : Body) → BodyFits None main → EntriesAlike (entries_of names (functions_in main)) (entries_of names (list_of (code_of None main).inner))
prelude_likens names main fits =
    subst (λ codes. EntriesAlike (entries_of names (functions_in main)) (entries_of names codes)) (sym (codes_are main)) (alike names (functions_in main) (body_fit main fits))

-- what holds of all functions holds of the prelude's

each_entry : (P : Prototype → Type 0) (names : List (List ℕ × Library)) (codes : List Prototype) → Each P codes → Each (λ (e : Entry Prototype). P e.entry) (entries_of names codes)
each_entry P [] codes h = each_none (λ (e : Entry Prototype). P e.entry)
each_entry P (name ∷ names) [] h = each_none (λ (e : Entry Prototype). P e.entry)
each_entry P (name ∷ names) (p ∷ codes) h = each_cons (λ (e : Entry Prototype). P e.entry) _ (entries_of names codes) (h zero p refl) (each_entry P names codes (each_tail P p codes h))

each_checked : (ps : Prototypes) → AllChecked ps → Each IsChecked (list_of ps)
each_checked none h = each_none IsChecked
each_checked (more own inner rest) h = each_cons IsChecked _ (list_of rest) (record { code = h.0; inner = h.1 }) (each_checked rest h.2)

each_bare : (ps : Prototypes) → AllNamed false [] ps → Each (Named false []) (list_of ps)
each_bare none h = each_none (Named false [])
each_bare (more own inner rest) h = each_cons (Named false []) _ (list_of rest) (record { own = h.0; inner = h.1 }) (each_bare rest h.2)

abbrev is_short : List ℕ × Library → Bool
is_short name = nat_le (length name.0) greatest_string

each_short : (names : List (List ℕ × Library)) → IsTrue (list_all is_short names) → (codes : List Prototype) → Each (λ (e : Entry Prototype). length e.name ≤ greatest_string) (entries_of names codes)
each_short [] h codes = each_none (λ (e : Entry Prototype). length e.name ≤ greatest_string)
each_short (name ∷ names) h [] = each_none (λ (e : Entry Prototype). length e.name ≤ greatest_string)
each_short (name ∷ names) h (p ∷ codes) =
    let b = both_of (is_short name) (list_all is_short names) h in
    each_cons (λ (e : Entry Prototype). length e.name ≤ greatest_string) _ (entries_of names codes) (le_of (length name.0) greatest_string b.0) (each_short names b.1 codes)

pub prelude_alike : PreludeIsAlike
prelude_alike tree read =
    let checked : IsChecked (code_of None (placed tree)) = source_checked _ read.tokens tree read.limited read.lexed read.derived read.lawful None refl in
    let named : Named false [] (code_of None (placed tree)) = code_named None (placed tree) in
    let codes : List Prototype = list_of (code_of None (placed tree)).inner in
    record {
      alike = prelude_likens prelude_functions (placed tree) (source_fits _ read.tokens tree read.limited read.lexed read.derived read.lawful None);
      ok = record {
        names = each_short prelude_functions refl codes;
        codes = each_entry IsChecked prelude_functions codes (each_checked (code_of None (placed tree)).inner checked.inner);
      };
      bare = each_entry (Named false []) prelude_functions codes (each_bare (code_of None (placed tree)).inner named.inner);
    }
