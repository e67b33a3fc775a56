-- A `goto` that finds its label by the static rules goes to a name that it may have.
use Rattle.std.proofs.Common.{rules, ℕ, ◌+◌, ◌≡◌, ◌≤◌, Bool, true, false, not, cond, ◌&&◌, ◌||◌, List, [], ◌∷◌, ◌++◌, refl, sym, ap, ◌∙◌, if◌then◌else◌}
use Rattle.std.specs.Prelude.{nat_le}
use Rattle.std.specs.List.{list_any}
use Rattle.std.specs.Str.{bytes_eq}
use Rattle.std.proofs.lemmas.Slice.Eq.{bytes_eq-Decides}
use Rattle.std.proofs.lemmas.Bool.{le-leb}
use Rattle.tree_core.specs.declared.name.Name.{Name}
use Rattle.tree_core.specs.Tree.{Stats, EndStats, MoreStats, Stat, Empty, Local, LocalFunction, Label}
use Rattle.tree_terms.specs.Labels.{are_void, Named, legal, names_ahead, names_passed}
use Rattle.scope_core.specs.Scopes.{Scope, Around, declared_by}
use Rattle.scope_core.specs.Parts.{Located, with_variables, with_block, stat_parts, stats_parts}
use Rattle.scope_core.specs.Rules.{Found, Missing, Fine, Entering, is_label, declares_variable, only_labels, find_behind, or_further, find_label, goto_violations, stands_before, stat_violations, held_violations, breach}
use Rattle.tree_terms.specs.Levels.{level_after}
use Rattle.scope_laws.proofs.Parts.{Kept, none_of, back, unbroken}
use Rattle.list_laws.proofs.Tests.{or_right}

-- labels in sight of blocks
abbrev pub Legal : List Around → List Named → Type 0
Legal blocks named = (text : List ℕ) → find_label text blocks ≡ Fine → legal text named ≡ true

-- the labels among statements that were passed, the nearest first
abbrev pub passed_all : List Stat → List Named
passed_all [] = []
passed_all (s ∷ before) = names_passed s (passed_all before)

neither_left : (b c : Bool) → (b || c) ≡ false → b ≡ false
neither_left true c e = absurd (search rules)
neither_left false c e = refl

neither_right : (b c : Bool) → (b || c) ≡ false → c ≡ false
neither_right true c e = absurd (search rules)
neither_right false c e = e

-- among those that were passed

either_way : (b c : Bool) (r : Bool) → (b || c) ≡ true → (c ≡ true → r ≡ true) → cond b true r ≡ true
either_way true c r h go = refl
either_way false c r h go = go h

pub passed_found : (text : List ℕ) (before : List Stat) (more : List Named) → list_any (is_label text) before ≡ true → legal text (passed_all before ++ more) ≡ true
passed_found text [] more h = absurd (search rules)
passed_found text (Label line name ∷ before) more h =
    either_way (bytes_eq name.text text) (list_any (is_label text) before) (legal text (passed_all before ++ more)) h (passed_found text before more)
passed_found text (s ∷ before) more h = passed_found text before more h

pub passed_missed : (text : List ℕ) (before : List Stat) (more : List Named) → list_any (is_label text) before ≡ false → legal text (passed_all before ++ more) ≡ legal text more
passed_missed text [] more h = refl
passed_missed text (Label line name ∷ before) more h =
    let other : bytes_eq name.text text ≡ false = neither_left (bytes_eq name.text text) (list_any (is_label text) before) h in
    ap (λ b. cond b true (legal text (passed_all before ++ more))) other
    ∙ passed_missed text before more (neither_right (bytes_eq name.text text) (list_any (is_label text) before) h)
passed_missed text (s ∷ before) more h = passed_missed text before more h

-- among those further on

void_labels : (ss : Stats) → are_void ss ≡ only_labels ss
void_labels EndStats = refl
void_labels (MoreStats (Empty line) ss) = void_labels ss
void_labels (MoreStats (Label line name) ss) = void_labels ss
void_labels (MoreStats s ss) = refl

-- no label stands further on that stands before
no_second : (text : List ℕ) (name : Name) (before : List Stat) (rest : Bool) → list_any (is_label text) before ≡ true → (list_any (is_label name.text) before || rest) ≡ false → bytes_eq name.text text ≡ false
no_second text name before rest h e = by (bytes_eq name.text text) refl
  where
    by : (b : Bool) → bytes_eq name.text text ≡ b → b ≡ false
    by false f = refl
    by true f =
        let is : name.text ≡ text = (bytes_eq-Decides name.text text).0 f in
        let none : list_any (is_label text) before ≡ false =
        ap (λ x. list_any (is_label x) before) (sym is) ∙ neither_left (list_any (is_label name.text) before) rest e in
        sym h ∙ none

pub ahead_skipped :
    (text : List ℕ) (ss : Stats) (s : Scope) (before : List Stat) (ends : Bool) (t level : ℕ) (more : List Named)
    → list_any (is_label text) before ≡ true → Kept (stats_parts s before ends ss) → legal text (names_ahead ss ends t level ++ more) ≡ legal text more
ahead_skipped text EndStats s before ends t level more h k = refl
ahead_skipped text (MoreStats (Label line name) ss) s before ends t level more h k =
    let here : Scope = with_block s (record { before = before; behind = ss; ends_scope = ends }) in
    let rule : breach (stands_before name.text here.blocks) line 3 ≡ [] =
    (none_of (stat_violations here (Label line name)) (held_violations here line 0) k.0).0 in
    let other : bytes_eq name.text text ≡ false =
    no_second text name before (list_any (λ (block : Around). list_any (is_label name.text) block.before) s.blocks) h (unbroken (stands_before name.text here.blocks) line 3 rule) in
    ap (λ b. cond b ((ends && are_void ss) || nat_le level t) (legal text (names_ahead ss ends t level ++ more))) other
    ∙ ahead_skipped text ss (with_variables s []) (Label line name ∷ before) ends t level more (or_right (bytes_eq name.text text) (list_any (is_label text) before) h) k.1
ahead_skipped text (MoreStats stat ss) s before ends t level more h k =
    let here : Scope = with_block s (record { before = before; behind = ss; ends_scope = ends }) in
    let rest : List Located = stats_parts (with_variables s (declared_by stat)) (stat ∷ before) ends ss in
    ahead_skipped text ss (with_variables s (declared_by stat)) (stat ∷ before) ends t (level_after stat level) more h (back (stat_parts here stat) rest k.1)

-- where no local was declared in between no more are in scope
abbrev Still : (entered : Bool) → (t level : ℕ) → Type 0
Still entered t level = entered ≡ false → level ≤ t

still_before : (entered : Bool) (t level : ℕ) → Still entered t level → Still (entered || false) t level
still_before true t level h e = h e
still_before false t level h e = h e

entered_after : (entered : Bool) (t level : ℕ) → Still (entered || true) t level
entered_after true t level e = absurd (search rules)
entered_after false t level e = absurd (search rules)

flag_fine : (entered ends void : Bool) (t level : ℕ) → Still entered t level → (if (entered && not (ends && void)) then Entering else Fine) ≡ Fine → ((ends && void) || nat_le level t) ≡ true
flag_fine false ends void t level still e = or_right (ends && void) (nat_le level t) (le-leb level t (still refl))
flag_fine true true true t level still e = refl
flag_fine true true false t level still e = absurd (search rules)
flag_fine true false void t level still e = absurd (search rules)

pub ahead_fine :
    (text : List ℕ) (ss : Stats) (entered ends : Bool) (t level : ℕ) (more : List Named)
    → Still entered t level → find_behind text entered ends ss ≡ Fine → legal text (names_ahead ss ends t level ++ more) ≡ true
ahead_fine text EndStats entered ends t level more still e = absurd (search rules)
ahead_fine text (MoreStats (Label line name) ss) entered ends t level more still e =
    by (bytes_eq name.text text) e (ahead_fine text ss (entered || false) ends t level more (still_before entered t level still))
  where
    by : (b : Bool) → (if b then (if (entered && not (ends && only_labels ss)) then Entering else Fine) else find_behind text (entered || false) ends ss) ≡ Fine → (find_behind text (entered || false) ends ss ≡ Fine → legal text (names_ahead ss ends t level ++ more) ≡ true) → cond b ((ends && are_void ss) || nat_le level t) (legal text (names_ahead ss ends t level ++ more)) ≡ true
    by true f go =
        ap (λ v. (ends && v) || nat_le level t) (void_labels ss) ∙ flag_fine entered ends (only_labels ss) t level still f
    by false f go = go f
ahead_fine text (MoreStats (Local line names es) ss) entered ends t level more still e =
    ahead_fine text ss (entered || true) ends t (level_after (Local line names es) level) more (entered_after entered t _) e
ahead_fine text (MoreStats (LocalFunction line name body) ss) entered ends t level more still e =
    ahead_fine text ss (entered || true) ends t (level + 1) more (entered_after entered t (level + 1)) e
ahead_fine text (MoreStats stat ss) entered ends t level more still e =
    ahead_fine text ss (entered || false) ends t level more (still_before entered t level still) e

pub ahead_missing :
    (text : List ℕ) (ss : Stats) (entered ends : Bool) (t level : ℕ) (more : List Named)
    → find_behind text entered ends ss ≡ Missing → legal text (names_ahead ss ends t level ++ more) ≡ legal text more
ahead_missing text EndStats entered ends t level more e = refl
ahead_missing text (MoreStats (Label line name) ss) entered ends t level more e =
    by (bytes_eq name.text text) (entered && not (ends && only_labels ss)) e (ahead_missing text ss (entered || false) ends t level more)
  where
    by : (b c : Bool) → (if b then (if c then Entering else Fine) else find_behind text (entered || false) ends ss) ≡ Missing → (find_behind text (entered || false) ends ss ≡ Missing → legal text (names_ahead ss ends t level ++ more) ≡ legal text more) → cond b ((ends && are_void ss) || nat_le level t) (legal text (names_ahead ss ends t level ++ more)) ≡ legal text more
    by true true f go = absurd (search rules)
    by true false f go = absurd (search rules)
    by false c f go = go f
ahead_missing text (MoreStats stat ss) entered ends t level more e =
    ahead_missing text ss (entered || declares_variable stat) ends t (level_after stat level) more e

-- A statement in a block: what its blocks see is what it may name.
pub legal_within :
    (ss : Stats) (s : Scope) (stat : Stat) (before : List Stat) (blocks : List Around) (ends : Bool) (t level : ℕ) (named : List Named)
    → level ≤ t → Kept (stats_parts s (stat ∷ before) ends ss) → Legal blocks named
    → Legal (record { before = before; behind = ss; ends_scope = ends } ∷ blocks) (names_ahead ss ends t level ++ (passed_all before ++ named))
legal_within ss s stat before blocks ends t level named still k sees text = by (list_any (is_label text) before) refl
  where
    ahead : (f : Found) → find_behind text false ends ss ≡ f → list_any (is_label text) before ≡ false → or_further f (find_label text blocks) ≡ Fine → legal text (names_ahead ss ends t level ++ (passed_all before ++ named)) ≡ true
    ahead Missing e none f =
        ahead_missing text ss false ends t level (passed_all before ++ named) e ∙ passed_missed text before named none ∙ sees text f
    ahead Fine e none f = ahead_fine text ss false ends t level (passed_all before ++ named) (λ _. still) e
    ahead Entering e none f = absurd (search rules)

    by : (b : Bool) → list_any (is_label text) before ≡ b → or_further (if b then Fine else find_behind text false ends ss) (find_label text blocks) ≡ Fine → legal text (names_ahead ss ends t level ++ (passed_all before ++ named)) ≡ true
    by true has f =
        ahead_skipped text ss s (stat ∷ before) ends t level (passed_all before ++ named) (or_right (is_label text stat) (list_any (is_label text) before) has) k
        ∙ passed_found text before named has
    by false none f = ahead (find_behind text false ends ss) refl none f

pub none_around : (named : List Named) → Legal [] named
none_around named text e = absurd (search rules)

pub found_fine : (found : Found) (line : ℕ) → goto_violations line found ≡ [] → found ≡ Fine
found_fine Missing line e = absurd (search rules)
found_fine Fine line e = refl
found_fine Entering line e = absurd (search rules)
