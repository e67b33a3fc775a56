-- Statements one after another, and blocks, where their parts talk alike.
use Rattle.std.proofs.Common.{◌≡◌, ℕ, ◌+◌, ◌<◌, ◌≤◌, Bool, true, false, cond, ◌&&◌, ◌||◌, List, [], ◌∷◌, ◌++◌, length, refl, sym, ap, subst, ◌∙◌, arith, append_assoc}
use Rattle.int_core.specs.Value.{Value}
use Rattle.int_core.specs.Ask.{Captured}
use Rattle.tree_core.specs.declared.name.Declared.{Declared}
use Rattle.tree_core.specs.Tree.{Stats, EndStats, MoreStats, Stat, Empty, Local, LocalFunction, Label}
use Rattle.tree_activation.specs.Work.{complete, run, Work, Pending, Passed, Point, End, in_block, State}
use Rattle.tree_activation.specs.Work as tree
use Rattle.tree_activation.specs.Activation.{step}
use Rattle.tree_activation.specs.Statements.{is_closed, executes}
use Rattle.tree_terms.specs.Labels.{are_void, Named, names_ahead}
use Rattle.tree_activation.specs.Jumps.{is_at_end, passed_by}
use Rattle.machine_core.specs.Talk.{before}
use Rattle.code_of.specs.Jumps.{Visible, Reach}
use Rattle.code_of.specs.Levels.{made_by_stat, has_closed, closing_after}
use Rattle.tree_terms.specs.Levels.{level_after, levels_after}
use Rattle.code_of.specs.Sizes.{stat_size, stats_size}
use Rattle.code_of.specs.Statements.{visible, labels_ahead, passed_after, stat_code, stats_code}
use Rattle.exp_laws.specs.Setting.{Setting}
use Rattle.exp_laws.proofs.Registers.{AllUnder, under_higher}
use Rattle.exp_laws.proofs.Talking.{Agree, go_left, of_tree, of_code}
use Rattle.exp_laws.proofs.Placing.{HasAt, has_front, has_back}
use Rattle.stat_laws.proofs.Ways.{way}
use Rattle.stat_laws.proofs.Closing.{AllBelow}
use Rattle.stat_laws.proofs.Standing.{strong, AllFrom, from_lower, from_more, below_higher, Standing, GoesOn, goes_from}
use Rattle.code_of.proofs.Sizes.{stat_sized}
use Rattle.stat_laws.proofs.Naming.{StatIsNamed, StatsAreNamed}
use Rattle.stat_laws.specs.Scoped.{StatIsPlaced, StatsArePlaced}
use Rattle.stat_laws.proofs.Labels.{closed_numbers, closed_after, IsNoLabel, level_still, runs_stat, passed_other, named_other, Jumps, jumps_within, point, RunGoes, AllAhead, all_other, AllPassed, passed_within, rest_jumps}
use Rattle.tree_terms.proofs.Levels.{level_rises}
use Rattle.list_laws.proofs.Items.{append_nil}

-- variables to be closed, behind some statements

abbrev pub closeds_after : Stats → ℕ → List ℕ → List ℕ
closeds_after EndStats t closed = closed
closeds_after (MoreStats s ss) t closed = closeds_after ss (level_after s t) (closed_after s t closed)

numbers_from : (names : List Declared) (t : ℕ) → AllFrom t (closed_numbers names t)
numbers_from [] t = tt
numbers_from (d ∷ names) t = by (is_closed d.attrib) (from_lower t (t + 1) (closed_numbers names (t + 1)) (omega arith) (numbers_from names (t + 1)))
  where
    by : (b : Bool) → AllFrom t (closed_numbers names (t + 1)) → AllFrom t (cond b (t ∷ closed_numbers names (t + 1)) (closed_numbers names (t + 1)))
    by true later = (omega arith, later)
    by false later = later

numbers_below : (names : List Declared) (t : ℕ) → AllBelow (closed_numbers names t) (t + length names)
numbers_below [] t = tt
numbers_below (d ∷ names) t =
    let e : t + 1 + length names ≡ t + length (d ∷ names) = omega arith in
    by (is_closed d.attrib) (subst (AllBelow (closed_numbers names (t + 1))) e (numbers_below names (t + 1)))
  where
    by : (b : Bool) → AllBelow (closed_numbers names (t + 1)) (t + length (d ∷ names)) → AllBelow (cond b (t ∷ closed_numbers names (t + 1)) (closed_numbers names (t + 1))) (t + length (d ∷ names))
    by true later = (omega arith, later)
    by false later = later

pub below_more : (ms ns : List ℕ) (n : ℕ) → AllBelow ms n → AllBelow ns n → AllBelow (ms ++ ns) n
below_more [] ns n h g = g
below_more (m ∷ ms) ns n h g = (h.0, below_more ms ns n h.1 g)

-- what a statement adds
pub record Added (t : ℕ) (closed after : List ℕ) : Type 0 where
  pub more : List ℕ
  pub whole : after ≡ closed ++ more
  pub from : AllFrom t more

pub added_none : (t : ℕ) (closed : List ℕ) → Added t closed closed
added_none t closed = record { more = []; whole = sym (append_nil closed); from = tt }

pub added_by : (s : Stat) (t : ℕ) (closed : List ℕ) → Added t closed (closed_after s t closed)
added_by (Local l names' es) t closed = record { more = closed_numbers names' t; whole = refl; from = numbers_from names' t }
added_by _ t closed = added_none t closed

pub under_after : (s : Stat) (t : ℕ) (closed : List ℕ) → AllBelow closed t → AllBelow (closed_after s t closed) (level_after s t)
under_after (Local l names' es) t closed h = below_more closed (closed_numbers names' t) (t + length names') (below_higher t (t + length names') closed (omega arith) h) (numbers_below names' t)
under_after (LocalFunction l name body) t closed h = below_higher t (t + 1) closed (omega arith) h
under_after _ t closed h = h

added_then : (t u : ℕ) (a b c : List ℕ) → t ≤ u → Added t a b → Added u b c → Added t a c
added_then t u a b c le h g = record {
  more = h.more ++ g.more;
  whole = g.whole ∙ ap (λ l. l ++ g.more) h.whole ∙ append_assoc a h.more g.more;
  from = from_more t h.more g.more h.from (from_lower t u g.more le g.from);
}

pub added_all : (ss : Stats) (t : ℕ) (closed : List ℕ) → Added t closed (closeds_after ss t closed)
added_all EndStats t closed = added_none t closed
added_all (MoreStats s ss) t closed = added_then t (level_after s t) closed (closed_after s t closed) (closeds_after ss (level_after s t) (closed_after s t closed)) (level_rises s t) (added_by s t closed) (added_all ss (level_after s t) (closed_after s t closed))

abbrev pub has_some : List ℕ → Bool
has_some [] = false
has_some (x ∷ xs) = true

pub no_some : (xs : List ℕ) → has_some xs ≡ false → xs ≡ []
no_some [] e = refl
no_some (x ∷ xs) e = absurd (cc)

pub some_numbers : (names : List Declared) (t : ℕ) → has_closed names ≡ has_some (closed_numbers names t)
some_numbers [] t = refl
some_numbers (d ∷ names) t = by (is_closed d.attrib) (some_numbers names (t + 1))
  where
    by : (b : Bool) → has_closed names ≡ has_some (closed_numbers names (t + 1)) → (b || has_closed names) ≡ has_some (cond b (t ∷ closed_numbers names (t + 1)) (closed_numbers names (t + 1)))
    by true later = refl
    by false later = later

some_both : (xs ys : List ℕ) → has_some (xs ++ ys) ≡ (has_some xs || has_some ys)
some_both [] ys = refl
some_both (x ∷ xs) ys = refl

-- `closing` says whether a variable to be closed is in scope, and so whether a call behind `return` is in the function's place
pub known_after : (s : Stat) (t : ℕ) (closing : Bool) (closed : List ℕ) → closing ≡ has_some closed → closing_after s closing ≡ has_some (closed_after s t closed)
known_after (Local l names' es) t closing closed h = ap (λ b. b || has_closed names') h ∙ ap (λ b. has_some closed || b) (some_numbers names' t) ∙ sym (some_both closed (closed_numbers names' t))
known_after _ t closing closed h = h

module _ (S : Setting) (back : ℕ) where
  -- the code of a statement talks as the statement does
  abbrev pub StatLaw : Stat → Type 0
  StatLaw s =
      (n : ℕ) (closing : Bool) (closed : List ℕ) (t j pc : ℕ) (named : List Named) (loops : Bool) (reach : Reach) (k : List Work)
      → n ≤ S.bound → HasAt S pc (stat_code S.code.own.constants (way S back) s closing t j pc reach) → StatIsPlaced S s closing t j named loops → StatIsNamed S.lines S.code (way S back) s closing t j pc → pc + stat_size S.code.own.constants (way S back) s closing t j < length S.code.own.code
      → AllBelow closed t → AllUnder S.hidden.integers t → closing ≡ has_some closed → (t ≡ level_after s t → Jumps S back n pc (pc + stat_size S.code.own.constants (way S back) s closing t j) t closed named loops reach k)
      → GoesOn S n (level_after s t) (closed_after s t closed) complete k (pc + stat_size S.code.own.constants (way S back) s closing t j)
      → (ps : List Pending) (env regs : List Value) (c : Captured) (opened : ℕ) (st : State) → step st ≡ executes s (of_tree S ps env c) k → Standing S t closed ps env c regs
      → Agree S n st (before (of_code S ps pc regs opened) c)

  module _ (ending : End) (falls : Bool) (outer : ℕ) (base : List ℕ) (k : List Work) (ending_is : (ss : Stats) → is_at_end ending ss ≡ (falls && are_void ss)) where
    abbrev at_point : Stats → List Passed → Point
    at_point ss labels = point S back ending falls outer base k ending_is ss labels

    abbrev Runs : (n : ℕ) → Stats → (t : ℕ) (closed : List ℕ) (pc : ℕ) → List Passed → Type 0
    Runs n ss t closed pc labels = RunGoes S back ending falls outer base k ending_is n ss t closed pc labels

    abbrev Ahead : (n : ℕ) → Stats → (closing : Bool) (closed : List ℕ) (level j pc : ℕ) → List Passed → Type 0
    Ahead n ss closing closed level j pc labels = AllAhead S back ending falls outer base k ending_is n ss closing closed level j pc labels

    abbrev Behind : (n hi t : ℕ) (closed : List ℕ) → List Passed → List Visible → List Named → Type 0
    Behind n hi t closed labels entries names = AllPassed S back ending falls outer base k ending_is n hi t closed labels entries names

    -- the block's end, with all of its locals, and without them
    pub record Ends (n t : ℕ) (closed : List ℕ) (pc : ℕ) : Type 0 where
      pub full : (labels : List Passed) → Runs n EndStats t closed pc labels
      pub low : falls ≡ true → (labels : List Passed) → Runs n EndStats outer base pc labels

    -- statements at a place of the block
    pub record Within (n lo hi : ℕ) (ss : Stats) (closing : Bool) (closed : List ℕ) (t j pc : ℕ) (labels : List Passed) (entries : List Visible) (names named : List Named) (loops : Bool) (reach : Reach) : Type 0 where
      pub fewer : n ≤ S.bound
      pub has : HasAt S pc (stats_code S.code.own.constants (way S back) ss falls closing outer t j pc entries reach)
      pub placed : StatsArePlaced S ss falls closing t j names named loops
      pub from : lo ≤ pc
      pub to : pc + stats_size S.code.own.constants (way S back) ss closing t j ≤ hi
      pub inside : hi < length S.code.own.code
      pub jumps : Jumps S back n lo hi outer base named loops reach k
      pub passed : Behind n pc t closed labels entries names
      pub added : Added outer base closed
      pub base_under : AllBelow base outer
      pub clear : AllUnder S.hidden.integers outer
      pub titles : StatsAreNamed S.lines S.code (way S back) ss closing t j pc
      pub under : AllBelow closed t
      pub outer_low : outer ≤ t
      pub known : closing ≡ has_some closed
      pub ends : Ends n (levels_after ss t) (closeds_after ss t closed) (pc + stats_size S.code.own.constants (way S back) ss closing t j)

    -- the first statement of a block, before which it has declared and passed nothing
    pub begins_block :
        (n hi : ℕ) (ss : Stats) (closing : Bool) (t j pc : ℕ) (named : List Named) (loops : Bool) (reach : Reach) → n ≤ S.bound
        → HasAt S pc (stats_code S.code.own.constants (way S back) ss falls closing outer t j pc [] reach) → StatsArePlaced S ss falls closing t j [] named loops
        → pc + stats_size S.code.own.constants (way S back) ss closing t j ≤ hi → hi < length S.code.own.code → Jumps S back n pc hi outer base named loops reach k
        → AllBelow base outer → AllUnder S.hidden.integers outer → StatsAreNamed S.lines S.code (way S back) ss closing t j pc → outer ≤ t → closing ≡ has_some base
        → Ends n (levels_after ss t) (closeds_after ss t base) (pc + stats_size S.code.own.constants (way S back) ss closing t j)
        → Within n pc hi ss closing base t j pc [] [] [] named loops reach
    begins_block n hi ss closing t j pc named loops reach fewer has placed to inside jumps base_under clear titles outer_low known ends = record {
      fewer = fewer;
      has = has;
      placed = placed;
      from = omega arith;
      to = to;
      inside = inside;
      jumps = jumps;
      passed = tt;
      added = added_none outer base;
      base_under = base_under;
      clear = clear;
      titles = titles;
      under = below_higher outer t base outer_low base_under;
      outer_low = outer_low;
      known = known;
      ends = ends;
    }

    abbrev pub StatsLaw : Stats → Type 0
    StatsLaw ss =
        (n lo hi : ℕ) (closing : Bool) (closed : List ℕ) (t j pc : ℕ) (labels : List Passed) (entries : List Visible) (names named : List Named) (loops : Bool) (reach : Reach)
        → Within n lo hi ss closing closed t j pc labels entries names named loops reach
        → Runs n ss t closed pc labels × Ahead n ss closing closed t j pc labels

    ends_at : (n t t' pc pc' : ℕ) (closed : List ℕ) → t ≡ t' → pc ≡ pc' → Ends n t closed pc → Ends n t' closed pc'
    ends_at n t t' pc pc' closed e d h = subst (λ q. Ends n t' closed q) d (subst (λ u. Ends n u closed pc) e h)

    ends_fewer : (m n t pc : ℕ) (closed : List ℕ) → m ≤ n → Ends n t closed pc → Ends m t closed pc
    ends_fewer m n t pc closed le h = record { full = λ labels l less. h.full labels l (omega arith); low = λ is labels l less. h.low is labels l (omega arith) }

    -- no statement is left
    pub none_goes : StatsLaw EndStats
    none_goes n lo hi closing closed t j pc labels entries names named loops reach w =
        let there : pc + 0 ≡ pc = omega arith in
        (goes_from S n t closed (run (at_point EndStats labels)) k (pc + 0) pc there (w.ends.full labels), tt)

    -- void statements lead to the end with no code
    void_goes : (n : ℕ) (ss : Stats) (j t pc : ℕ) (closing : Bool) (labels : List Passed) → are_void ss ≡ true
        → ((labels : List Passed) → Runs n EndStats outer base (pc + stats_size S.code.own.constants (way S back) ss closing t j) labels) → Runs n ss outer base pc labels
    void_goes n EndStats j t pc closing labels is low = let there : pc + 0 ≡ pc = omega arith in goes_from S n outer base (run (at_point EndStats labels)) k (pc + 0) pc there (low labels)
    void_goes n (MoreStats (Empty l) ss) j t pc closing labels is low =
        let size = stats_size S.code.own.constants (way S back) ss closing t (j + 0) in
        let there : pc + (0 + size) ≡ pc + size = omega arith in
        let rest = void_goes n ss (j + 0) t pc closing labels is (λ more. goes_from S n outer base (run (at_point EndStats more)) k (pc + (0 + size)) (pc + size) there (low more)) in
        λ m le ps env regs c opened st.
        go_left S m _ (tree.at complete (of_tree S ps env c) (in_block (length env) (at_point ss labels) ∷ k)) _ refl
        (go_left S m _ (tree.at (run (at_point ss labels)) (of_tree S ps env c) k) _ refl (rest m le ps env regs c opened st))
    void_goes n (MoreStats (Label l name) ss) j t pc closing labels is low =
        let size = stats_size S.code.own.constants (way S back) ss closing t (j + 0) in
        let there : pc + (0 + size) ≡ pc + size = omega arith in
        λ m le ps env regs c opened st.
        let passed = passed_by name (length env) ss ∷ labels in
        go_left S m _ (tree.at (run (at_point ss passed)) (of_tree S ps env c) k) _ refl
        (void_goes n ss (j + 0) t pc closing passed is (λ more. goes_from S n outer base (run (at_point EndStats more)) k (pc + (0 + size)) (pc + size) there (low more)) m le ps env regs c opened st)
    void_goes n _ j t pc closing labels is low = absurd (cc)

    -- a label: what stands behind it is gone on with again after fewer asks
    pub label_goes : (l : ℕ) (name : _) (ss : Stats) → StatsLaw ss → StatsLaw (MoreStats (Label l name) ss)
    label_goes l name ss law n lo hi closing closed t j pc labels entries names named loops reach w = (whole, (here, there))
      where
        passed : List Passed
        passed = passed_by name t ss ∷ labels

        size : ℕ
        size = stats_size S.code.own.constants (way S back) ss closing t (j + 0)

        same : pc + 0 ≡ pc
        same = omega arith

        whole_size : pc + (0 + size) ≡ pc + 0 + size
        whole_size = omega arith

        Both : ℕ → Type 0
        Both m = m ≤ n → Runs m ss t closed (pc + 0) passed × Ahead m ss closing closed t (j + 0) (pc + 0) passed

        both : (m : ℕ) → ((l : ℕ) → l < m → Both l) → Both m
        both m fewer le =
            law m lo hi closing closed t (j + 0) (pc + 0) passed (visible name.text pc t ∷ entries) ((name.text, true) ∷ names) named loops reach
            (record {
              fewer = (let f = w.fewer in omega arith);
              has = subst (λ q. HasAt S q (stats_code S.code.own.constants (way S back) ss falls closing outer t (j + 0) (pc + 0) (visible name.text pc t ∷ entries) reach)) (sym same) w.has;
              placed = w.placed.1;
              from = (let f = w.from in omega arith);
              to = (let f = w.to in omega (arith, f));
              inside = w.inside;
              jumps = subst (λ b. Jumps S back m lo hi outer b named loops reach k) (append_nil base) (jumps_within S back n m lo hi lo hi outer outer base [] named loops reach k le (omega arith) (omega arith) (omega arith) tt w.jumps);
              passed = (
                record {
                  place = pc;
                  front = closed;
                  more = [];
                  entry = refl;
                  named = refl;
                  near = omega arith;
                  low = omega arith;
                  whole = sym (append_nil closed);
                  above = tt;
                  under = w.under;
                  inside = (let f = w.to in let g = w.inside in omega arith);
                  again = λ l less. goes_from S l t closed (run (at_point ss passed)) k (pc + 0) pc same (fewer l less (omega arith)).0;
                },
                subst (λ c. Behind m (pc + 0) t c labels entries names) (append_nil closed) (passed_within S back ending falls outer base k ending_is n m pc (pc + 0) t t closed [] labels entries names le (omega arith) (omega arith) tt w.passed),
              );
              added = w.added;
              base_under = w.base_under;
              clear = w.clear;
              titles = w.titles.1;
              under = w.under;
              outer_low = w.outer_low;
              known = w.known;
              ends = ends_at m (levels_after ss t) (levels_after ss t) (pc + (0 + size)) (pc + 0 + size) (closeds_after ss t closed) refl whole_size (ends_fewer m n (levels_after ss t) (pc + (0 + size)) (closeds_after ss t closed) le w.ends);
            })

        again : Runs n ss t closed (pc + 0) passed × Ahead n ss closing closed t (j + 0) (pc + 0) passed
        again = strong Both both n (omega arith)

        no_functions : j + 0 ≡ j
        no_functions = omega arith

        there : Ahead n ss closing closed t j pc passed
        there = subst (λ i. Ahead n ss closing closed t i pc passed) no_functions (subst (λ q. Ahead n ss closing closed t (j + 0) q passed) same again.1)

        on : Runs n ss t closed pc passed
        on = goes_from S n t closed (run (at_point ss passed)) k (pc + 0) pc same again.0

        whole : Runs n (MoreStats (Label l name) ss) t closed pc labels
        whole = λ m le ps env regs c opened st. go_left S m _ (tree.at (run (at_point ss (passed_by name (length env) ss ∷ labels))) (of_tree S ps env c) k) _ refl
            (subst (λ u. Agree S m (tree.at (run (at_point ss (passed_by name u ss ∷ labels))) (of_tree S ps env c) k) (before (of_code S ps pc regs opened) c)) (sym st.size) (on m le ps env regs c opened st))

        both_true : (b c : Bool) → (b && c) ≡ true → (b ≡ true) × (c ≡ true)
        both_true true true e = (refl, refl)
        both_true true false e = absurd (cc)
        both_true false c e = absurd (cc)

        landed : (b : Bool) → (falls && are_void ss) ≡ b → Runs n ss (cond b outer t) (cond b base closed) pc passed
        landed false e = on
        landed true e =
            let h = both_true falls (are_void ss) e in
            let there : pc + (0 + size) ≡ pc + size = omega arith in
            void_goes n ss (j + 0) t pc closing passed h.1 (λ more. goes_from S n outer base (run (at_point EndStats more)) k (pc + (0 + size)) (pc + size) there (w.ends.low h.0 more))

        here : (pc < length S.code.own.code) × Runs n ss (cond (falls && are_void ss) outer t) (cond (falls && are_void ss) base closed) pc passed
        here = ((let f = w.to in let g = w.inside in omega arith), landed (falls && are_void ss) refl)

    -- a statement, and those behind it
    pub more_goes : (s : Stat) (ss : Stats) → IsNoLabel s → StatLaw s → StatsLaw ss → StatsLaw (MoreStats s ss)
    more_goes s ss is stat law n lo hi closing closed t j pc labels entries names named loops reach w = (whole, subst (λ T. T) (sym (all_other S back ending falls outer base k ending_is s n ss closing closed t j pc labels is)) rest.1)
      where
        around : Reach
        around = record { labels = labels_ahead S.code.own.constants (way S back) ss falls (closing_after s closing) outer (level_after s t) (j + made_by_stat s) (pc + stat_size S.code.own.constants (way S back) s closing t j) ++ (entries ++ reach.labels); exit = reach.exit }

        sized : length (stat_code S.code.own.constants (way S back) s closing t j pc around) ≡ stat_size S.code.own.constants (way S back) s closing t j
        sized = stat_sized S.code.own.constants (way S back) s closing t j pc around

        more : Added t closed (closed_after s t closed)
        more = added_by s t closed

        behind_has : HasAt S (pc + stat_size S.code.own.constants (way S back) s closing t j) (stats_code S.code.own.constants (way S back) ss falls (closing_after s closing) outer (level_after s t) (j + made_by_stat s) (pc + stat_size S.code.own.constants (way S back) s closing t j) entries reach)
        behind_has =
            subst (λ e. HasAt S (pc + stat_size S.code.own.constants (way S back) s closing t j) (stats_code S.code.own.constants (way S back) ss falls (closing_after s closing) outer (level_after s t) (j + made_by_stat s) (pc + stat_size S.code.own.constants (way S back) s closing t j) e reach)) (passed_other s t pc entries is)
            (subst (λ q. HasAt S (pc + q) (stats_code S.code.own.constants (way S back) ss falls (closing_after s closing) outer (level_after s t) (j + made_by_stat s) (pc + stat_size S.code.own.constants (way S back) s closing t j) (passed_after s t pc entries) reach)) sized
            (has_back S pc (stat_code S.code.own.constants (way S back) s closing t j pc around) (stats_code S.code.own.constants (way S back) ss falls (closing_after s closing) outer (level_after s t) (j + made_by_stat s) (pc + stat_size S.code.own.constants (way S back) s closing t j) (passed_after s t pc entries) reach) w.has))

        joined : pc + (stat_size S.code.own.constants (way S back) s closing t j + stats_size S.code.own.constants (way S back) ss (closing_after s closing) (level_after s t) (j + made_by_stat s))
            ≡ pc + stat_size S.code.own.constants (way S back) s closing t j + stats_size S.code.own.constants (way S back) ss (closing_after s closing) (level_after s t) (j + made_by_stat s)
        joined = omega arith

        rest : Runs n ss (level_after s t) (closed_after s t closed) (pc + stat_size S.code.own.constants (way S back) s closing t j) labels
            × Ahead n ss (closing_after s closing) (closed_after s t closed) (level_after s t) (j + made_by_stat s) (pc + stat_size S.code.own.constants (way S back) s closing t j) labels
        rest =
            law n lo hi (closing_after s closing) (closed_after s t closed) (level_after s t) (j + made_by_stat s) (pc + stat_size S.code.own.constants (way S back) s closing t j) labels entries names named loops reach
            (record {
              fewer = w.fewer;
              has = behind_has;
              placed = subst (λ q. StatsArePlaced S ss falls (closing_after s closing) (level_after s t) (j + made_by_stat s) q named loops) (named_other s names is) w.placed.1;
              from = (let f = w.from in omega arith);
              to = (let f = w.to in omega (arith, f));
              inside = w.inside;
              jumps = w.jumps;
              passed = subst (λ c. Behind n (pc + stat_size S.code.own.constants (way S back) s closing t j) (level_after s t) c labels entries names) (sym more.whole)
                  (passed_within S back ending falls outer base k ending_is n n pc (pc + stat_size S.code.own.constants (way S back) s closing t j) t (level_after s t) closed more.more labels entries names (omega arith) (omega arith) (level_rises s t) more.from w.passed);
              added = added_then outer t base closed (closed_after s t closed) w.outer_low w.added more;
              base_under = w.base_under;
              clear = w.clear;
              titles = w.titles.1;
              under = under_after s t closed w.under;
              outer_low = (let r = level_rises s t in let o = w.outer_low in omega (arith, r, o));
              known = known_after s t closing closed w.known;
              ends = ends_at n (levels_after ss (level_after s t)) (levels_after ss (level_after s t)) _ _ (closeds_after ss (level_after s t) (closed_after s t closed)) refl joined w.ends;
            })

        jumps_here : (m : ℕ) → m ≤ n → t ≡ level_after s t
            → Jumps S back m pc (pc + stat_size S.code.own.constants (way S back) s closing t j) t closed (names_ahead ss falls t (level_after s t) ++ (names ++ named)) loops around (in_block t (at_point ss labels) ∷ k)
        jumps_here m le same =
            let a = w.added in
            let f = w.from in
            let g = w.to in
            let i = w.inside in
            subst (λ c. Jumps S back m pc (pc + stat_size S.code.own.constants (way S back) s closing t j) t c (names_ahead ss falls t (level_after s t) ++ (names ++ named)) loops around (in_block t (at_point ss labels) ∷ k)) (append_nil closed)
            (jumps_within S back n m pc (pc + stat_size S.code.own.constants (way S back) s closing t j) pc (pc + stat_size S.code.own.constants (way S back) s closing t j) t t closed [] (names_ahead ss falls t (level_after s t) ++ (names ++ named)) loops around (in_block t (at_point ss labels) ∷ k) le (omega arith) (omega arith) (omega arith) tt
            (rest_jumps S back ending falls outer base k ending_is n pc (pc + stat_size S.code.own.constants (way S back) s closing t j) t (level_after s t) (closing_after s closing) closed (closed_after s t closed) a.more ss (j + made_by_stat s) (pc + stat_size S.code.own.constants (way S back) s closing t j) labels entries names named loops reach
            a.whole a.from w.base_under w.under w.outer_low same (λ l. level_still s t closed l) (omega arith) (omega arith) rest.1 w.passed
            (subst (λ b. Jumps S back n pc (pc + stat_size S.code.own.constants (way S back) s closing t j) outer b named loops reach k) (append_nil base)
            (jumps_within S back n n lo hi pc (pc + stat_size S.code.own.constants (way S back) s closing t j) outer outer base [] named loops reach k (omega arith) (omega arith) (omega arith) (omega arith) tt w.jumps))))

        done : (m : ℕ) → m ≤ n → GoesOn S m (level_after s t) (closed_after s t closed) complete (in_block t (at_point ss labels) ∷ k) (pc + stat_size S.code.own.constants (way S back) s closing t j)
        done m le l less ps env regs c opened st = go_left S l _ (tree.at (run (at_point ss labels)) (of_tree S ps env c) k) _ refl (rest.0 l (omega arith) ps env regs c opened st)

        whole : Runs n (MoreStats s ss) t closed pc labels
        whole m le ps env regs c opened st =
            let f = w.from in
            let g = w.to in
            let i = w.inside in
            stat m closing closed t j pc (names_ahead ss falls t (level_after s t) ++ (names ++ named)) loops around (in_block t (at_point ss labels) ∷ k) (let b = w.fewer in omega arith)
            (has_front S pc (stat_code S.code.own.constants (way S back) s closing t j pc around) (stats_code S.code.own.constants (way S back) ss falls (closing_after s closing) outer (level_after s t) (j + made_by_stat s) (pc + stat_size S.code.own.constants (way S back) s closing t j) (passed_after s t pc entries) reach) w.has)
            w.placed.0 w.titles.0 (omega arith) w.under (under_higher S.hidden.integers outer t w.outer_low w.clear) w.known (jumps_here m le) (done m le) ps env regs c opened (tree.at (run (at_point (MoreStats s ss) labels)) (of_tree S ps env c) k)
            (runs_stat s ss (at_point (MoreStats s ss) labels) (of_tree S ps env c) k is ∙ ap (λ u. executes s (of_tree S ps env c) (in_block u (at_point ss labels) ∷ k)) st.size) st
