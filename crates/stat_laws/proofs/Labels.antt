-- Labels: a tree and its code look for them in the same order, and where the one goes on behind a label the other does at its place.
use Rattle.std.proofs.Common.{◌≡◌, ℕ, ◌+◌, ◌<◌, ◌≤◌, Bool, true, false, cond, ◌&&◌, ◌||◌, List, [], ◌∷◌, ◌++◌, length, Option, Some, None, refl, sym, ap, subst, ◌∙◌, arith, append_assoc}
use borrow.Author.Tests.{leb-true}
use Rattle.std.specs.Prelude.{nat_le, bytes_eq}
use Rattle.int_core.specs.Value.{Value, known, nil}
use Rattle.int_core.specs.Ask.{Captured, Next}
use Rattle.tree_core.specs.declared.name.Name.{Name}
use Rattle.tree_core.specs.declared.name.Declared.{Declared}
use Rattle.tree_core.specs.Tree.{Body, Stats, EndStats, MoreStats, Stat, Empty, Local, LocalFunction, Assign, CallStat, Do, While, Repeat, If, IfElse, NumFor, NumForStep, GenFor, Label, Goto, Break}
use Rattle.tree_activation.specs.Work.{Control, complete, run, pay, leave_scope, Work, Pending, Passed, Point, End, in_block, State}
use Rattle.tree_activation.specs.Work as tree
use Rattle.tree_activation.specs.Asking.{go}
use Rattle.tree_activation.specs.Activation.{step}
use Rattle.tree_activation.specs.Statements.{is_closed, executes, runs_on}
use Rattle.tree_terms.specs.Labels.{are_void, Named, legal, names_ahead, names_passed}
use Rattle.tree_activation.specs.Jumps.{is_at_end, Landing as TreeLanding, passed_by, ahead, behind, lands, goes_to, breaks}
use Rattle.machine_core.specs.Talk.{before}
use Rattle.code_of.specs.Jumps.{Landing, Visible, Reach, label_in, leads, jump_code, jump_size}
use Rattle.code_of.specs.Levels.{made_by_stat, closing_after}
use Rattle.tree_terms.specs.Levels.{level_after}
use Rattle.code_of.specs.Sizes.{stat_size}
use Rattle.code_of.specs.Statements.{visible, labels_ahead, passed_after}
use Rattle.exp_laws.proofs.Registers.{Rel}
use Rattle.exp_laws.specs.Setting.{Setting}
use Rattle.exp_laws.proofs.Talking.{Agree, of_tree, of_code}
use Rattle.exp_laws.proofs.Placing.{HasAt}
use Rattle.stat_laws.proofs.Ways.{way}
use Rattle.stat_laws.proofs.Closing.{AllBelow}
use Rattle.stat_laws.proofs.Standing.{NoneOpen, numbers, AllFrom, from_lower, from_more, GoesOn, lands_ahead, lands_back}
use Rattle.list_laws.proofs.Items.{append_nil}
use Rattle.tree_terms.proofs.Levels.{level_rises}

-- the numbers of those variables of a declaration that are to be closed

abbrev pub closed_numbers : List Declared → ℕ → List ℕ
closed_numbers [] t = []
closed_numbers (d ∷ names) t = cond (is_closed d.attrib) (t ∷ closed_numbers names (t + 1)) (closed_numbers names (t + 1))

abbrev pub closed_after : Stat → ℕ → List ℕ → List ℕ
closed_after (Local line names es) t closed = closed ++ closed_numbers names t
closed_after _ t closed = closed

abbrev pub IsNoLabel : Stat → Type 0
IsNoLabel (Label line name) = ⊥
IsNoLabel _ = Unit {0}

pub level_still : (s : Stat) (t : ℕ) (closed : List ℕ) → level_after s t ≤ t → closed_after s t closed ≡ closed
level_still (Local line [] es) t closed le = append_nil closed
level_still (Local line (d ∷ names) es) t closed le = absurd (omega arith)
level_still (LocalFunction line name' body) t closed le = absurd (omega arith)
level_still _ t closed le = refl

pub runs_stat : (s : Stat) (ss : Stats) (p : Point) (a : tree.Activation) (k : List Work) → IsNoLabel s → runs_on (MoreStats s ss) p a k ≡ executes s a (in_block (length a.locals) (record p { rest = ss }) ∷ k)
runs_stat (Label line name') ss p a k is = absurd is
runs_stat _ ss p a k is = refl

pub passed_other : (s : Stat) (t pc : ℕ) (passed : List Visible) → IsNoLabel s → passed_after s t pc passed ≡ passed
passed_other (Label line name') t pc passed is = absurd is
passed_other _ t pc passed is = refl

pub named_other : (s : Stat) (named : List Named) → IsNoLabel s → names_passed s named ≡ named
named_other (Label line name') named is = absurd is
named_other _ named is = refl

module _ (S : Setting) (back : ℕ) where
  -- jumps out of code between two places, where at least t locals are in scope

  abbrev pub JumpGoes : (n lo hi t : ℕ) (closed : List ℕ) → (ℕ → tree.Activation → List Work → Next Body State) → Option Landing → (k : List Work) → Type 0
  JumpGoes n lo hi t closed jump there k =
      (m line pc : ℕ) (ps : List Pending) (env regs : List Value) (c : Captured) (opened : ℕ) (more : List ℕ) (s : State) → m ≤ n
      → (closes : Bool) → (closes ≡ false → NoneOpen S ps c) → HasAt S pc (leads closes there pc line) → lo ≤ pc → pc + jump_size closes ≤ hi
      → numbers ps ≡ closed ++ more → AllFrom t more → t ≤ length env → Rel S.hidden S.code.own.stack ps env c regs → step s ≡ jump line (of_tree S ps env c) k
      → Agree S m s (before (of_code S ps pc regs opened) c)

  pub record Jumps (n lo hi t : ℕ) (closed : List ℕ) (named : List Named) (loops : Bool) (reach : Reach) (k : List Work) : Type 0 where
    pub gotos : (name : List ℕ) → legal name named ≡ true → JumpGoes n lo hi t closed (goes_to name) (label_in name reach.labels) k
    pub exits : loops ≡ true → JumpGoes n lo hi t closed breaks reach.exit k

  jump_within : (n m lo hi lo' hi' t t' : ℕ) (closed extra : List ℕ) (jump : ℕ → tree.Activation → List Work → Next Body State) (there : Option Landing) (k : List Work)
      → m ≤ n → lo ≤ lo' → hi' ≤ hi → t ≤ t' → AllFrom t extra → JumpGoes n lo hi t closed jump there k → JumpGoes m lo' hi' t' (closed ++ extra) jump there k
  jump_within n m lo hi lo' hi' t t' closed extra jump there k fewer a b c from h =
      λ l line pc ps env regs c' opened more s less closes shut has x y numbered above size rel st.
      h l line pc ps env regs c' opened (extra ++ more) s (omega arith) closes shut has (omega arith) (omega arith) (numbered ∙ append_assoc closed extra more) (from_more t extra more from (from_lower t t' more c above)) (omega arith) rel st

  pub jumps_within : (n m lo hi lo' hi' t t' : ℕ) (closed extra : List ℕ) (named : List Named) (loops : Bool) (reach : Reach) (k : List Work)
      → m ≤ n → lo ≤ lo' → hi' ≤ hi → t ≤ t' → AllFrom t extra → Jumps n lo hi t closed named loops reach k → Jumps m lo' hi' t' (closed ++ extra) named loops reach k
  jumps_within n m lo hi lo' hi' t t' closed extra named loops reach k fewer a b c from h = record {
    gotos = λ name ok. jump_within n m lo hi lo' hi' t t' closed extra (goes_to name) (label_in name reach.labels) k fewer a b c from (h.gotos name ok);
    exits = λ ok. jump_within n m lo hi lo' hi' t t' closed extra breaks reach.exit k fewer a b c from (h.exits ok);
  }

  -- within a block, around which `outer` locals are in scope
  module _ (ending : End) (falls : Bool) (outer : ℕ) (base : List ℕ) (k : List Work) (ending_is : (ss : Stats) → is_at_end ending ss ≡ (falls && are_void ss)) where
    abbrev pub point : Stats → List Passed → Point
    point ss labels = record { rest = ss; ending = ending; level = outer; labels = labels }

    abbrev pub RunGoes : (n : ℕ) → Stats → (t : ℕ) (closed : List ℕ) (pc : ℕ) → List Passed → Type 0
    RunGoes n ss t closed pc labels = GoesOn S n t closed (run (point ss labels)) k pc

    -- the code goes on at each label to come; at one at the block's end without the block's locals
    abbrev pub AllAhead : (n : ℕ) → Stats → (closing : Bool) (closed : List ℕ) (level j pc : ℕ) → List Passed → Type 0
    AllAhead n EndStats closing closed level j pc labels = Unit {0}
    AllAhead n (MoreStats (Label line name) ss) closing closed level j pc labels =
        ((pc < length S.code.own.code) × RunGoes n ss (cond (falls && are_void ss) outer level) (cond (falls && are_void ss) base closed) pc (passed_by name level ss ∷ labels))
        × AllAhead n ss closing closed level j pc (passed_by name level ss ∷ labels)
    AllAhead n (MoreStats s ss) closing closed level j pc labels =
        AllAhead n ss (closing_after s closing) (closed_after s level closed) (level_after s level) (j + made_by_stat s) (pc + stat_size S.code.own.constants (way S back) s closing level j) labels

    pub all_other : (s : Stat) (n : ℕ) (ss : Stats) (closing : Bool) (closed : List ℕ) (level j pc : ℕ) (labels : List Passed) → IsNoLabel s → AllAhead n (MoreStats s ss) closing closed level j pc labels
        ≡ AllAhead n ss (closing_after s closing) (closed_after s level closed) (level_after s level) (j + made_by_stat s) (pc + stat_size S.code.own.constants (way S back) s closing level j) labels
    all_other (Label line name') n ss closing closed level j pc labels is = absurd is
    all_other _ n ss closing closed level j pc labels is = refl

    -- a label that was passed
    pub record OnePassed (n hi t : ℕ) (closed : List ℕ) (x : Passed) (xs : List Passed) (e : Visible) (d : Named) : Type 0 where
      pub place : ℕ
      pub front : List ℕ
      pub more : List ℕ
      pub entry : e ≡ visible x.name place x.level
      pub named : d ≡ (x.name, true)
      pub near : place ≤ hi
      pub low : x.level ≤ t
      pub whole : closed ≡ front ++ more
      pub above : AllFrom x.level more
      pub under : AllBelow front x.level
      pub inside : place < length S.code.own.code
      pub again : (m : ℕ) → m < n → RunGoes m x.behind x.level front place (x ∷ xs)

    abbrev pub AllPassed : (n hi t : ℕ) (closed : List ℕ) → List Passed → List Visible → List Named → Type 0
    AllPassed n hi t closed [] [] [] = Unit {0}
    AllPassed n hi t closed (x ∷ xs) (e ∷ es) (d ∷ ds) = OnePassed n hi t closed x xs e d × AllPassed n hi t closed xs es ds
    AllPassed n hi t closed _ _ _ = ⊥

    pub passed_within : (n m hi hi' t t' : ℕ) (closed extra : List ℕ) (labels : List Passed) (entries : List Visible) (named : List Named) → m ≤ n → hi ≤ hi' → t ≤ t' → AllFrom t extra
        → AllPassed n hi t closed labels entries named → AllPassed m hi' t' (closed ++ extra) labels entries named
    passed_within n m hi hi' t t' closed extra [] [] [] fewer a b from h = tt
    passed_within n m hi hi' t t' closed extra (x ∷ xs) (e ∷ es) (d ∷ ds) fewer a b from h =
        let o = h.0 in
        let near = o.near in
        let low = o.low in (
          record {
            place = o.place;
            front = o.front;
            more = o.more ++ extra;
            entry = o.entry;
            named = o.named;
            near = omega arith;
            low = omega arith;
            whole = ap (λ l. l ++ extra) o.whole ∙ append_assoc o.front o.more extra;
            above = from_more x.level o.more extra o.above (from_lower x.level t extra low from);
            under = o.under;
            inside = o.inside;
            again = λ l less. o.again l (omega arith);
          },
          passed_within n m hi hi' t t' closed extra xs es ds fewer a b from h.1,
        )
    passed_within n m hi hi' t t' closed extra _ _ _ fewer a b from h = absurd h

    -- a `goto` from a place in a statement before which t locals are in scope
    module _ (n lo hi t : ℕ) (closed front : List ℕ) (reach : Reach) (named : List Named) (loops : Bool) (whole : closed ≡ base ++ front) (front_from : AllFrom outer front) (base_under : AllBelow base outer) (closed_under : AllBelow closed t) (outer_low : outer ≤ t)
        (outward : Jumps n lo hi outer base named loops reach k)
        (here : Stats) (passed : List Passed) (name : List ℕ) (m line pc : ℕ) (ps : List Pending) (env regs : List Value) (c : Captured) (opened : ℕ) (more : List ℕ) (s : State) (fewer : m ≤ n) (closes : Bool) (shut : closes ≡ false → NoneOpen S ps c) (low : lo ≤ pc) (high : pc + jump_size closes ≤ hi) (end : pc + jump_size closes < length S.code.own.code)
        (numbered : numbers ps ≡ closed ++ more) (above : AllFrom t more) (size : t ≤ length env) (rel : Rel S.hidden S.code.own.stack ps env c regs) where
      abbrev a : tree.Activation
      a = of_tree S ps env c

      abbrev Here : List Visible → Type 0
      Here labels = HasAt S pc (leads closes (label_in name labels) pc line)

      from_base : numbers ps ≡ base ++ (front ++ more)
      from_base = numbered ∙ ap (λ l. l ++ more) whole ∙ append_assoc base front more

      out_of : step s ≡ goes_to name line a k → Here reach.labels → legal name named ≡ true → Agree S m s (before (of_code S ps pc regs opened) c)
      out_of st has ok =
          outward.gotos name ok m line pc ps env regs c opened (front ++ more) s fewer closes shut has low high from_base
          (from_more outer front more front_from (from_lower outer t more outer_low above)) (omega arith) rel st

      -- the block as the tree has it while the statement is under way
      abbrev p : Point
      p = point here passed

      abbrev Done : Type 0
      Done = Agree S m s (before (of_code S ps pc regs opened) c)

      back_jump : (labels : List Passed) (entries : List Visible) (names : List Named) → AllPassed n pc t closed labels entries names
          → step s ≡ lands None (behind name p labels) line (goes_to name line a k) a k → Here (entries ++ reach.labels) → legal name (names ++ named) ≡ true → Done
      back_jump [] [] [] all st has ok = out_of st has ok
      back_jump (x ∷ xs) (v ∷ vs) (w ∷ ws) all st has ok = by (bytes_eq x.name name) refl (λ st' has' ok'. back_jump xs vs ws all.1 st' has' ok')
        where
          o : OnePassed n pc t closed x xs v w
          o = all.0

          landing : Landing
          landing = record { place = o.place; level = x.level }

          first_here : Here (visible x.name o.place x.level ∷ (vs ++ reach.labels))
          first_here = subst (λ f. Here (f ∷ (vs ++ reach.labels))) o.entry has

          fine : legal name ((x.name, true) ∷ (ws ++ named)) ≡ true
          fine = subst (λ f. legal name (f ∷ (ws ++ named)) ≡ true) o.named ok

          tree_so : (b : Bool) → bytes_eq x.name name ≡ b
              → step s ≡ lands None (cond b (Some (record { level = x.level; point = point x.behind (x ∷ xs) })) (behind name p xs)) line (goes_to name line a k) a k
          tree_so b same = st ∙ ap (λ b. lands None (cond b (Some (record { level = x.level; point = point x.behind (x ∷ xs) })) (behind name p xs)) line (goes_to name line a k) a k) same

          code_so : (b : Bool) → bytes_eq x.name name ≡ b → HasAt S pc (leads closes (cond b (Some landing) (label_in name (vs ++ reach.labels))) pc line)
          code_so b same = subst (λ b. HasAt S pc (leads closes (cond b (Some landing) (label_in name (vs ++ reach.labels))) pc line)) same first_here

          by : (b : Bool) → bytes_eq x.name name ≡ b
              → (step s ≡ lands None (behind name p xs) line (goes_to name line a k) a k → Here (vs ++ reach.labels) → legal name (ws ++ named) ≡ true → Done) → Done
          by false same rest = rest (tree_so false same) (code_so false same) (sym (ap (λ b. cond b true (legal name (ws ++ named))) same) ∙ fine)
          by true same rest =
              lands_back S m landing o.front pc line ps env regs c opened s k o.inside (o.more ++ more)
              (numbered ∙ ap (λ l. l ++ more) o.whole ∙ append_assoc o.front o.more more) (from_more x.level o.more more o.above (from_lower x.level t more o.low above)) o.under (let l = o.low in omega arith) rel
              closes shut (code_so true same) end (run (point x.behind (x ∷ xs))) o.near (tree_so true same) (λ l less. o.again l (omega arith))
      back_jump _ _ _ all st has ok = absurd all

      -- among the labels to come, and else as `others` say
      module _ (backs : List Visible) (back_names : List Named) (there : Option TreeLanding)
          (others : step s ≡ lands None there line (goes_to name line a k) a k → Here backs → legal name back_names ≡ true → Done) where
        found_label : (ss : Stats) (found : Name) (closing' : Bool) (closed' : List ℕ) (level j pc' : ℕ) (labels : List Passed) → t ≤ level → hi ≤ pc' → (level ≤ t → closed' ≡ closed) → pc' < length S.code.own.code
            → RunGoes n ss (cond (falls && are_void ss) outer level) (cond (falls && are_void ss) base closed') pc' (passed_by found level ss ∷ labels)
            → step s ≡ go (leave_scope (cond (is_at_end ending ss) outer level) line (known nil) (run (point ss (passed_by found level ss ∷ labels)))) a k
            → HasAt S pc (jump_code closes (record { place = pc'; level = cond (falls && are_void ss) outer level }) pc line) → ((falls && are_void ss) || nat_le level t) ≡ true → Done
        found_label ss found closing' closed' level j pc' labels above_t far still inside goes st has ok = by (falls && are_void ss) refl goes (st ∙ ap (λ b. go (leave_scope (cond b outer level) line (known nil) (run (point ss (passed_by found level ss ∷ labels)))) a k) (ending_is ss)) has ok
          where
            by : (b : Bool) → (falls && are_void ss) ≡ b → RunGoes n ss (cond b outer level) (cond b base closed') pc' (passed_by found level ss ∷ labels)
                → step s ≡ go (leave_scope (cond b outer level) line (known nil) (run (point ss (passed_by found level ss ∷ labels)))) a k
                → HasAt S pc (jump_code closes (record { place = pc'; level = cond b outer level }) pc line) → (b || nat_le level t) ≡ true → Done
            by true is goes st has ok =
                lands_ahead S m (record { place = pc'; level = outer }) base pc line ps env regs c opened s k inside (front ++ more) from_base
                (from_more outer front more front_from (from_lower outer t more outer_low above)) base_under (omega arith) rel
                closes shut has end (run (point ss (passed_by found level ss ∷ labels))) (omega arith) st (λ l less. goes l (omega arith))
            by false is goes st has ok =
                let le = leb-true level t ok in
                let same : level ≡ t = omega (arith, le, above_t) in
                let closed_same = still le in
                lands_ahead S m (record { place = pc'; level = level }) closed' pc line ps env regs c opened s k inside more (numbered ∙ ap (λ l. l ++ more) (sym closed_same))
                (subst (λ l. AllFrom l more) (sym same) above) (subst (λ l. AllBelow l level) (sym closed_same) (subst (AllBelow closed) (sym same) closed_under)) (omega arith) rel
                closes shut has end (run (point ss (passed_by found level ss ∷ labels))) (omega arith) st (λ l less. goes l (omega arith))

        rises_from : (s : Stat) (level : ℕ) → t ≤ level → t ≤ level_after s level
        rises_from s level le = let h = level_rises s level in omega (arith, h, le)

        still_after : (s : Stat) (level : ℕ) (closed' : List ℕ) → (level ≤ t → closed' ≡ closed) → t ≤ level → level_after s level ≤ t → closed_after s level closed' ≡ closed
        still_after s level closed' still above_t le = let h = level_rises s level in level_still s level closed' (omega (arith, h, le, above_t)) ∙ still (omega (arith, h, le))

        on_jump : (ss : Stats) (closing' : Bool) (closed' : List ℕ) (level j pc' : ℕ) (labels : List Passed) → t ≤ level → hi ≤ pc' → (level ≤ t → closed' ≡ closed) → AllAhead n ss closing' closed' level j pc' labels
            → step s ≡ lands (ahead name level ss p labels) there line (goes_to name line a k) a k → Here (labels_ahead S.code.own.constants (way S back) ss falls closing' outer level j pc' ++ backs)
            → legal name (names_ahead ss falls t level ++ back_names) ≡ true → Done
        on_jump EndStats closing' closed' level j pc' labels above_t far still all st has ok = others st has ok
        on_jump (MoreStats (Label l found) ss) closing' closed' level j pc' labels above_t far still all st has ok =
            by (bytes_eq found.text name) refl (λ st' has' ok'. on_jump ss closing' closed' level j pc' (passed_by found level ss ∷ labels) above_t far still all.1 st' has' ok')
          where
            tree_landing : TreeLanding
            tree_landing = record { level = cond (is_at_end ending ss) outer level; point = point ss (passed_by found level ss ∷ labels) }

            behind_it : Option TreeLanding
            behind_it = ahead name level ss p (passed_by found level ss ∷ labels)

            code_landing : Landing
            code_landing = record { place = pc'; level = cond (falls && are_void ss) outer level }

            later : List Visible
            later = labels_ahead S.code.own.constants (way S back) ss falls closing' outer level j pc' ++ backs

            by : (b : Bool) → bytes_eq found.text name ≡ b
                → (step s ≡ lands behind_it there line (goes_to name line a k) a k → Here later → legal name (names_ahead ss falls t level ++ back_names) ≡ true → Done) → Done
            by false same rest =
                rest (st ∙ ap (λ b. lands (cond b (Some tree_landing) behind_it) there line (goes_to name line a k) a k) same)
                (subst (λ b. HasAt S pc (leads closes (cond b (Some code_landing) (label_in name later)) pc line)) same has)
                (sym (ap (λ b. cond b ((falls && are_void ss) || nat_le level t) (legal name (names_ahead ss falls t level ++ back_names))) same) ∙ ok)
            by true same rest =
                found_label ss found closing' closed' level j pc' labels above_t far still all.0.0 all.0.1
                (st ∙ ap (λ b. lands (cond b (Some tree_landing) behind_it) there line (goes_to name line a k) a k) same)
                (subst (λ b. HasAt S pc (leads closes (cond b (Some code_landing) (label_in name later)) pc line)) same has)
                (sym (ap (λ b. cond b ((falls && are_void ss) || nat_le level t) (legal name (names_ahead ss falls t level ++ back_names))) same) ∙ ok)
        on_jump (MoreStats (Empty l) ss) closing' closed' level j pc' labels above_t far still all st has ok = on_jump ss (closing_after (Empty l) closing') (closed_after (Empty l) level closed') (level_after (Empty l) level) (j + made_by_stat (Empty l)) (pc' + stat_size S.code.own.constants (way S back) (Empty l) closing' level j) labels (rises_from (Empty l) level above_t) (omega arith) (still_after (Empty l) level closed' still above_t) all st has ok
        on_jump (MoreStats (Local l names es) ss) closing' closed' level j pc' labels above_t far still all st has ok = on_jump ss (closing_after (Local l names es) closing') (closed_after (Local l names es) level closed') (level_after (Local l names es) level) (j + made_by_stat (Local l names es)) (pc' + stat_size S.code.own.constants (way S back) (Local l names es) closing' level j) labels (rises_from (Local l names es) level above_t) (omega arith) (still_after (Local l names es) level closed' still above_t) all st has ok
        on_jump (MoreStats (LocalFunction l name' body) ss) closing' closed' level j pc' labels above_t far still all st has ok = on_jump ss (closing_after (LocalFunction l name' body) closing') (closed_after (LocalFunction l name' body) level closed') (level_after (LocalFunction l name' body) level) (j + made_by_stat (LocalFunction l name' body)) (pc' + stat_size S.code.own.constants (way S back) (LocalFunction l name' body) closing' level j) labels (rises_from (LocalFunction l name' body) level above_t) (omega arith) (still_after (LocalFunction l name' body) level closed' still above_t) all st has ok
        on_jump (MoreStats (Assign l targets es) ss) closing' closed' level j pc' labels above_t far still all st has ok = on_jump ss (closing_after (Assign l targets es) closing') (closed_after (Assign l targets es) level closed') (level_after (Assign l targets es) level) (j + made_by_stat (Assign l targets es)) (pc' + stat_size S.code.own.constants (way S back) (Assign l targets es) closing' level j) labels (rises_from (Assign l targets es) level above_t) (omega arith) (still_after (Assign l targets es) level closed' still above_t) all st has ok
        on_jump (MoreStats (CallStat l e) ss) closing' closed' level j pc' labels above_t far still all st has ok = on_jump ss (closing_after (CallStat l e) closing') (closed_after (CallStat l e) level closed') (level_after (CallStat l e) level) (j + made_by_stat (CallStat l e)) (pc' + stat_size S.code.own.constants (way S back) (CallStat l e) closing' level j) labels (rises_from (CallStat l e) level above_t) (omega arith) (still_after (CallStat l e) level closed' still above_t) all st has ok
        on_jump (MoreStats (Do l block) ss) closing' closed' level j pc' labels above_t far still all st has ok = on_jump ss (closing_after (Do l block) closing') (closed_after (Do l block) level closed') (level_after (Do l block) level) (j + made_by_stat (Do l block)) (pc' + stat_size S.code.own.constants (way S back) (Do l block) closing' level j) labels (rises_from (Do l block) level above_t) (omega arith) (still_after (Do l block) level closed' still above_t) all st has ok
        on_jump (MoreStats (While l e block) ss) closing' closed' level j pc' labels above_t far still all st has ok = on_jump ss (closing_after (While l e block) closing') (closed_after (While l e block) level closed') (level_after (While l e block) level) (j + made_by_stat (While l e block)) (pc' + stat_size S.code.own.constants (way S back) (While l e block) closing' level j) labels (rises_from (While l e block) level above_t) (omega arith) (still_after (While l e block) level closed' still above_t) all st has ok
        on_jump (MoreStats (Repeat l block e) ss) closing' closed' level j pc' labels above_t far still all st has ok = on_jump ss (closing_after (Repeat l block e) closing') (closed_after (Repeat l block e) level closed') (level_after (Repeat l block e) level) (j + made_by_stat (Repeat l block e)) (pc' + stat_size S.code.own.constants (way S back) (Repeat l block e) closing' level j) labels (rises_from (Repeat l block e) level above_t) (omega arith) (still_after (Repeat l block e) level closed' still above_t) all st has ok
        on_jump (MoreStats (If l arms) ss) closing' closed' level j pc' labels above_t far still all st has ok = on_jump ss (closing_after (If l arms) closing') (closed_after (If l arms) level closed') (level_after (If l arms) level) (j + made_by_stat (If l arms)) (pc' + stat_size S.code.own.constants (way S back) (If l arms) closing' level j) labels (rises_from (If l arms) level above_t) (omega arith) (still_after (If l arms) level closed' still above_t) all st has ok
        on_jump (MoreStats (IfElse l arms block) ss) closing' closed' level j pc' labels above_t far still all st has ok = on_jump ss (closing_after (IfElse l arms block) closing') (closed_after (IfElse l arms block) level closed') (level_after (IfElse l arms block) level) (j + made_by_stat (IfElse l arms block)) (pc' + stat_size S.code.own.constants (way S back) (IfElse l arms block) closing' level j) labels (rises_from (IfElse l arms block) level above_t) (omega arith) (still_after (IfElse l arms block) level closed' still above_t) all st has ok
        on_jump (MoreStats (NumFor l name' from limit block) ss) closing' closed' level j pc' labels above_t far still all st has ok = on_jump ss (closing_after (NumFor l name' from limit block) closing') (closed_after (NumFor l name' from limit block) level closed') (level_after (NumFor l name' from limit block) level) (j + made_by_stat (NumFor l name' from limit block)) (pc' + stat_size S.code.own.constants (way S back) (NumFor l name' from limit block) closing' level j) labels (rises_from (NumFor l name' from limit block) level above_t) (omega arith) (still_after (NumFor l name' from limit block) level closed' still above_t) all st has ok
        on_jump (MoreStats (NumForStep l name' from limit step block) ss) closing' closed' level j pc' labels above_t far still all st has ok = on_jump ss (closing_after (NumForStep l name' from limit step block) closing') (closed_after (NumForStep l name' from limit step block) level closed') (level_after (NumForStep l name' from limit step block) level) (j + made_by_stat (NumForStep l name' from limit step block)) (pc' + stat_size S.code.own.constants (way S back) (NumForStep l name' from limit step block) closing' level j) labels (rises_from (NumForStep l name' from limit step block) level above_t) (omega arith) (still_after (NumForStep l name' from limit step block) level closed' still above_t) all st has ok
        on_jump (MoreStats (GenFor l names es block) ss) closing' closed' level j pc' labels above_t far still all st has ok = on_jump ss (closing_after (GenFor l names es block) closing') (closed_after (GenFor l names es block) level closed') (level_after (GenFor l names es block) level) (j + made_by_stat (GenFor l names es block)) (pc' + stat_size S.code.own.constants (way S back) (GenFor l names es block) closing' level j) labels (rises_from (GenFor l names es block) level above_t) (omega arith) (still_after (GenFor l names es block) level closed' still above_t) all st has ok
        on_jump (MoreStats (Goto l name') ss) closing' closed' level j pc' labels above_t far still all st has ok = on_jump ss (closing_after (Goto l name') closing') (closed_after (Goto l name') level closed') (level_after (Goto l name') level) (j + made_by_stat (Goto l name')) (pc' + stat_size S.code.own.constants (way S back) (Goto l name') closing' level j) labels (rises_from (Goto l name') level above_t) (omega arith) (still_after (Goto l name') level closed' still above_t) all st has ok
        on_jump (MoreStats (Break l) ss) closing' closed' level j pc' labels above_t far still all st has ok = on_jump ss (closing_after (Break l) closing') (closed_after (Break l) level closed') (level_after (Break l) level) (j + made_by_stat (Break l)) (pc' + stat_size S.code.own.constants (way S back) (Break l) closing' level j) labels (rises_from (Break l) level above_t) (omega arith) (still_after (Break l) level closed' still above_t) all st has ok

    -- a `goto` in a statement with ss behind it
    pub rest_jumps : (n lo hi t level : ℕ) (closing : Bool) (closed closed' front : List ℕ) (ss : Stats) (j pc : ℕ) (labels : List Passed) (entries : List Visible) (names named : List Named) (loops : Bool) (reach : Reach)
        → closed ≡ base ++ front → AllFrom outer front → AllBelow base outer → AllBelow closed t → outer ≤ t → t ≡ level → (level ≤ t → closed' ≡ closed) → hi ≤ pc → hi < length S.code.own.code
        → AllAhead n ss closing closed' level j pc labels → AllPassed n lo t closed labels entries names → Jumps n lo hi outer base named loops reach k
        → Jumps n lo hi t closed (names_ahead ss falls t level ++ (names ++ named)) loops (record { labels = labels_ahead S.code.own.constants (way S back) ss falls closing outer level j pc ++ (entries ++ reach.labels); exit = reach.exit }) (in_block t (point ss labels) ∷ k)
    rest_jumps n lo hi t level closing closed closed' front ss j pc labels entries names named loops reach whole front_from base_under closed_under outer_low same still far inside all passed outward = record {
      gotos = λ name ok m line at_pc ps env regs c opened more s fewer closes shut has low high numbered above size rel st.
          on_jump n lo hi t closed front reach named loops whole front_from base_under closed_under outer_low outward ss labels name m line at_pc ps env regs c opened more s fewer closes shut low high (omega arith) numbered above size rel
          (entries ++ reach.labels) (names ++ named) (behind name (point ss labels) labels)
          (λ st' has' ok'. back_jump n lo hi t closed front reach named loops whole front_from base_under closed_under outer_low outward ss labels name m line at_pc ps env regs c opened more s fewer closes shut low high (omega arith) numbered above size rel
          labels entries names (subst (λ l. AllPassed n at_pc t l labels entries names) (append_nil closed) (passed_within n n lo at_pc t t closed [] labels entries names (omega arith) low (omega arith) tt passed)) st' has' ok')
          ss closing closed' level j pc labels (omega (arith, same)) far still all
          (subst (λ u. step s ≡ lands (ahead name u ss (point ss labels) labels) (behind name (point ss labels) labels) line (goes_to name line (of_tree S ps env c) k) (of_tree S ps env c) k) same st) has ok;
      exits = λ ok m line at_pc ps env regs c opened more s fewer closes shut has low high numbered above size rel st.
          outward.exits ok m line at_pc ps env regs c opened (front ++ more) s fewer closes shut has low high (numbered ∙ ap (λ l. l ++ more) whole ∙ append_assoc base front more)
          (from_more outer front more front_from (from_lower outer t more outer_low above)) (omega arith) rel st;
    }
