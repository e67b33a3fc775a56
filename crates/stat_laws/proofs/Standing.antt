-- What holds of a tree and its code between two statements, and how a jump leads from one such place to another.
use Rattle.std.proofs.Common.{◌≡◌, ℕ, zero, suc, ◌+◌, ◌-◌, ◌<◌, ◌≤◌, pos, negsuc, ◌+ℤ◌, ◌-ℤ◌, Bool, true, false, cond, List, [], ◌∷◌, ◌++◌, length, map, Option, Some, None, refl, sym, ap, ap₂, subst, ◌∙◌, arith, length-append, append_assoc}
use borrow.Author.Tests.{le-leb}
use Rattle.std.proofs.lemmas.Bool.{lt-leb}
use Rattle.int_core.specs.Value.{Value, known, nil, bind}
use Rattle.int_core.specs.Ask.{pays, values_in, Captured, Next, goes_on, stuck, brought}
use Rattle.tree_activation.specs.Work.{Control, pay, leave_scope, Work, Pending}
use Rattle.tree_activation.specs.Work as tree
use Rattle.tree_activation.specs.Asking.{go, asks_quickly}
use Rattle.tree_activation.specs.Activation.{step}
use Rattle.code_core.specs.declared.opcode.Opcode.TheVariants.{Close, Jmp}
use Rattle.code_core.specs.Instruction.{op_ax}
use Rattle.code_core.specs.Prototype.{Prototype}
use Rattle.code_core.specs.Check.{at}
use Rattle.code_core.proofs.FieldLemmas.{opcode_of-ax, ax_of-ax}
use Rattle.machine_core.specs.Text.{pay as pay', quick, go_by}
use Rattle.machine_core.specs.InstructionRows.{jumps}
use Rattle.machine_core.specs.Talk as code
use Rattle.machine_core.specs.Talk.{talk, talk_step, says_so, before, amid}
use Rattle.code_of.specs.Coded.{with_abc, jump_over, jump_back}
use Rattle.code_of.specs.Jumps.{Landing, jump_code, jump_size}
use Rattle.exp_laws.proofs.Registers.{HeldBelow, held_higher, Rel, Ascends, told, share_same, after_share}
use Rattle.exp_laws.specs.Setting.{Setting}
use Rattle.exp_laws.proofs.Talking.{Agree, go_left, go_right, both_ask, of_tree, of_code}
use Rattle.exp_laws.proofs.Placing.{HasAt, here_abc}
use Rattle.exp_laws.proofs.Going.{next_there}
use Rattle.exp_laws.proofs.Steps.{row_step}
use Rattle.exp_laws.proofs.Tests.{jump_step}
use Rattle.stat_laws.proofs.Closing.{Grown, as_before, one_more, grown_then, AllBelow, NothingHeld, close_goes, empty_goes}
use Rattle.list_laws.proofs.Items.{append_nil}

-- a law at a number of asks that may rest on the law at fewer
pub strong : (P : ℕ → Type 0) → ((n : ℕ) → ((m : ℕ) → m < n → P m) → P n) → (n : ℕ) → P n
strong P by n = by n (below n)
  where
    below : (n m : ℕ) → m < n → P m
    below zero m lt = absurd (omega arith)
    below (suc n) m lt = by m (λ l less. below n l (omega arith))

-- variables to be closed, by their numbers

abbrev pub numbers : List Pending → List ℕ
numbers ps = map (λ p. p.number) ps

abbrev pub AllFrom : ℕ → List ℕ → Type 0
AllFrom level [] = Unit {0}
AllFrom level (m ∷ ms) = (level ≤ m) × AllFrom level ms

pub from_lower : (low high : ℕ) (ms : List ℕ) → low ≤ high → AllFrom high ms → AllFrom low ms
from_lower low high [] le h = tt
from_lower low high (m ∷ ms) le h = let f = h.0 in (omega (arith, f), from_lower low high ms le h.1)

pub from_more : (level : ℕ) (ms ns : List ℕ) → AllFrom level ms → AllFrom level ns → AllFrom level (ms ++ ns)
from_more level [] ns h g = g
from_more level (m ∷ ms) ns h g = (h.0, from_more level ms ns h.1 g)

pub below_higher : (low high : ℕ) (ms : List ℕ) → low ≤ high → AllBelow ms low → AllBelow ms high
below_higher low high [] le h = tt
below_higher low high (m ∷ ms) le h = let f = h.0 in (omega (arith, f), below_higher low high ms le h.1)

pub no_numbers : (ps : List Pending) → numbers ps ≡ [] → ps ≡ []
no_numbers [] e = refl
no_numbers (p ∷ ps) e = absurd (cc)

abbrev first_of : List ℕ → ℕ
first_of [] = 0
first_of (x ∷ xs) = x

abbrev rest_of : List ℕ → List ℕ
rest_of [] = []
rest_of (x ∷ xs) = xs

grown_all : (level : ℕ) (base ps : List Pending) → AllFrom level (numbers ps) → Grown level base (base ++ ps)
grown_all level base [] h = subst (Grown level base) (sym (append_nil base)) as_before
grown_all level base (p ∷ ps) h =
    subst (Grown level base) (append_assoc base (p ∷ []) ps)
    (grown_then level level base (base ++ p ∷ []) ((base ++ p ∷ []) ++ ps) (omega arith) (one_more base as_before p h.0) (grown_all level (base ++ p ∷ []) ps h.1))

pub record Parted (level : ℕ) (front : List ℕ) (ps : List Pending) : Type 0 where
  pub base : List Pending
  pub numbered : numbers base ≡ front
  pub rest : List Pending
  pub whole : ps ≡ base ++ rest
  pub grown : Grown level base ps

parts : (front more : List ℕ) (ps : List Pending) → numbers ps ≡ front ++ more → (base : List Pending) × ((rest : List Pending) × ((ps ≡ base ++ rest) × ((numbers base ≡ front) × (numbers rest ≡ more))))
parts [] more ps e = ([], (ps, (refl, (refl, e))))
parts (x ∷ front) more [] e = absurd (cc)
parts (x ∷ front) more (p ∷ ps) e =
    let h = parts front more ps (ap rest_of e) in
    (p ∷ h.0, (h.1.0, (ap (λ l. p ∷ l) h.1.1.0, (ap₂ (λ y l. y ∷ l) (ap first_of e) h.1.1.1.0, h.1.1.1.1))))

-- those that a jump to a level leaves, and those that stay
pub part : (level : ℕ) (front more : List ℕ) (ps : List Pending) → numbers ps ≡ front ++ more → AllFrom level more → Parted level front ps
part level front more ps e from =
    let h = parts front more ps e in
    record {
      base = h.0;
      numbered = h.1.1.1.0;
      rest = h.1.0;
      whole = h.1.1.0;
      grown = subst (Grown level h.0) (sym h.1.1.0) (grown_all level h.0 h.1.0 (subst (AllFrom level) (sym h.1.1.1.1) from));
    }

pub ascends_under : (from to level : ℕ) (base rest : List Pending) → Ascends from (base ++ rest) to → AllBelow (numbers base) level → Ascends from base level
ascends_under from to level [] rest h b = tt
ascends_under from to level (p ∷ base) rest h b = (h.0, (b.0, ascends_under (suc p.number) to level base rest h.1.1 b.1))

module _ (S : Setting) where
  -- t locals are in scope, and those to be closed have these numbers
  pub record Standing (t : ℕ) (closed : List ℕ) (ps : List Pending) (env : List Value) (c : Captured) (regs : List Value) : Type 0 where
    pub numbered : numbers ps ≡ closed
    pub size : length env ≡ t
    pub rel : Rel S.hidden S.code.own.stack ps env c regs

  -- what the tree does next is what the code does from a place on, through n asks or fewer
  abbrev pub GoesOn : (n t : ℕ) (closed : List ℕ) (goes : Control) (k : List Work) (pc : ℕ) → Type 0
  GoesOn n t closed goes k pc =
      (m : ℕ) → m ≤ n → (ps : List Pending) (env regs : List Value) (c : Captured) (opened : ℕ) → Standing t closed ps env c regs
      → Agree S m (tree.at goes (of_tree S ps env c) k) (before (of_code S ps pc regs opened) c)

  pub goes_fewer : (m n t : ℕ) (closed : List ℕ) (goes : Control) (k : List Work) (pc : ℕ) → m ≤ n → GoesOn n t closed goes k pc → GoesOn m t closed goes k pc
  goes_fewer m n t closed goes k pc le h = λ l less ps env regs c opened st. h l (omega arith) ps env regs c opened st

  pub goes_from : (n t : ℕ) (closed : List ℕ) (goes : Control) (k : List Work) (pc pc' : ℕ) → pc ≡ pc' → GoesOn n t closed goes k pc → GoesOn n t closed goes k pc'
  goes_from n t closed goes k pc pc' e h = subst (GoesOn n t closed goes k) e h

  -- a jump back costs a unit

  back_offset : (m : ℕ) → 0 < m → m ≤ 16777215 → pos (16777215 - m) -ℤ pos 16777215 ≡ negsuc (m - 1)
  back_offset zero some fits = absurd (omega arith)
  back_offset (suc m) some fits = let e : 16777215 - suc m + suc m ≡ 16777215 = omega arith in grind (arith, e)

  back_place : (pc target m : ℕ) → 0 < m → target + m ≡ pc + 1 → pos pc +ℤ (negsuc (m - 1) +ℤ pos 1) ≡ pos target
  back_place pc target zero some e = absurd (omega arith)
  back_place pc target (suc m) some e = grind (arith, e)

  back_text : (m : ℕ) → 0 < m → m ≤ 16777215 → jumps (pos (16777215 - m) -ℤ pos 16777215) ≡ quick pay' (λ _. go_by (negsuc (m - 1) +ℤ pos 1))
  back_text m some fits = ap jumps (back_offset m some fits)

  module _ (m target line pc : ℕ) (ps : List Pending) (some : 0 < m) (far : m ≤ 16777215) (e : target + m ≡ pc + 1) (has : HasAt S pc (jump_back m line ∷ [])) (inside : target < length S.code.own.code) where
    back_step : (regs : List Value) (c : Captured) (opened : ℕ) → talk_step S.code (before (of_code S ps pc regs opened) c)
        ≡ says_so pays S.code (of_code S ps pc regs opened) c (λ x b d. amid (go_by (negsuc (m - 1) +ℤ pos 1)) ([] ++ values_in x.reply) b d)
    back_step regs c opened =
        row_step S.code (op_ax Jmp (16777215 - m)) Jmp (quick pay' (λ _. go_by (negsuc (m - 1) +ℤ pos 1))) (of_code S ps pc regs opened) c has.0 (opcode_of-ax Jmp (16777215 - m))
        (ap (λ x. jumps (pos x -ℤ pos 16777215)) (ax_of-ax Jmp (16777215 - m) (omega arith)) ∙ back_text m some far)

    landed : (slots regs : List Value) (c : Captured) (opened : ℕ) → talk_step S.code (amid (go_by (negsuc (m - 1) +ℤ pos 1)) slots (of_code S ps pc regs opened) c) ≡ goes_on (before (of_code S ps target regs opened) c)
    landed slots regs c opened =
        let there = next_there S target inside in
        ap (λ o. elim (bind o (λ pc. bind (at S.code pc) (λ _. Some pc))) as (λ _. Next Prototype code.State) [ None ↦ stuck | Some q ↦ goes_on (before (of_code S ps q regs opened) c) ])
        (ap (λ z. elim z as (λ _. Option ℕ) [ pos n ↦ Some n | negsuc _ ↦ None ]) (back_place pc target m some e))
        ∙ ap (λ o. elim (bind o (λ _. Some target)) as (λ _. Next Prototype code.State) [ None ↦ stuck | Some q ↦ goes_on (before (of_code S ps q regs opened) c) ]) there.1

    -- the tree pays too, and both go on
    pub back_goes : (n : ℕ) (s : tree.State) (goes : Control) (env regs : List Value) (c : Captured) (opened : ℕ) (k : List Work)
        → step s ≡ asks_quickly pays line (of_tree S ps env c) k (λ _. goes) → Rel S.hidden S.code.own.stack ps env c regs
        → ((env' regs' : List Value) (c' : Captured) → length env' ≡ length env → Rel S.hidden S.code.own.stack ps env' c' regs' → Agree S n (tree.at goes (of_tree S ps env' c') k) (before (of_code S ps target regs' opened) c'))
        → Agree S (suc n) s (before (of_code S ps pc regs opened) c)
    back_goes n s goes env regs c opened k st rel after =
        both_ask S n s _ pays pays line _ _ _ _ _ st (back_step regs c opened) tt refl has.1.0 (share_same S.hidden S.code.own.stack ps env c regs rel)
        (λ x fits. let af = after_share S.hidden S.code.own.stack ps env regs x.shared c 0 rel in
        go_right S n _ _ (before (of_code S ps target (brought c.held x.shared regs) opened) (told c)) (landed ([] ++ values_in x.reply) (brought c.held x.shared regs) (told c) opened)
        (after (brought c.held x.shared env) (brought c.held x.shared regs) (told c) af.size af.rel))

  -- where a jump leads, which closes what it leaves or finds nothing open

  abbrev pub NoneOpen : List Pending → Captured → Type 0
  NoneOpen ps c = (ps ≡ []) × HeldBelow c.held 0

  ahead_code : (x : Landing) (pc line : ℕ) → pc + 2 ≤ x.place → jump_code true x pc line ≡ with_abc Close x.level 0 0 line ∷ jump_over (x.place - (pc + 2)) line ∷ []
  ahead_code x pc line le = ap (λ b. with_abc Close x.level 0 0 line ∷ cond b (jump_over (x.place - (pc + 2)) line) (jump_back (pc + 2 - x.place) line) ∷ []) (le-leb (pc + 2) x.place le)

  ahead_one : (x : Landing) (pc line : ℕ) → pc + 1 ≤ x.place → jump_code false x pc line ≡ jump_over (x.place - (pc + 1)) line ∷ []
  ahead_one x pc line le = ap (λ b. cond b (jump_over (x.place - (pc + 1)) line) (jump_back (pc + 1 - x.place) line) ∷ []) (le-leb (pc + 1) x.place le)

  back_code : (x : Landing) (pc line : ℕ) → x.place ≤ pc → jump_code true x pc line ≡ with_abc Close x.level 0 0 line ∷ jump_back (pc + 2 - x.place) line ∷ []
  back_code x pc line le = ap (λ b. with_abc Close x.level 0 0 line ∷ cond b (jump_over (x.place - (pc + 2)) line) (jump_back (pc + 2 - x.place) line) ∷ []) (lt-leb (pc + 2) x.place (omega (arith, le)))

  back_one : (x : Landing) (pc line : ℕ) → x.place ≤ pc → jump_code false x pc line ≡ jump_back (pc + 1 - x.place) line ∷ []
  back_one x pc line le = ap (λ b. cond b (jump_over (x.place - (pc + 1)) line) (jump_back (pc + 1 - x.place) line) ∷ []) (lt-leb (pc + 1) x.place (omega (arith, le)))

  module _ (n : ℕ) (x : Landing) (closed : List ℕ) (pc line : ℕ) (ps : List Pending) (env regs : List Value) (c : Captured) (opened : ℕ) (s : tree.State) (k : List Work)
      (inside : x.place < length S.code.own.code) (more : List ℕ) (numbered : numbers ps ≡ closed ++ more) (from : AllFrom x.level more) (under : AllBelow closed x.level)
      (low : x.level ≤ length env) (rel : Rel S.hidden S.code.own.stack ps env c regs) where
    parted : Parted x.level closed ps
    parted = part x.level closed more ps numbered from

    base_under : Ascends 0 parted.base x.level
    base_under = ascends_under 0 (length env) x.level parted.base parted.rest (subst (λ l. Ascends 0 l (length env)) parted.whole rel.ascends) (subst (λ l. AllBelow l x.level) (sym parted.numbered) under)

    -- nothing is open from the level on
    nothing : NoneOpen ps c → NothingHeld S x.level parted.base ps c
    nothing h =
        let whole = ap length parted.whole ∙ length-append parted.base parted.rest in
        let none : length ps ≡ 0 = ap length h.0 in
        (held_higher c.held 0 x.level (omega arith) h.1, omega (arith, whole, none))

    pub lands_ahead : (closes : Bool) → (closes ≡ false → NoneOpen ps c) → HasAt S pc (jump_code closes x pc line) → pc + jump_size closes < length S.code.own.code → (goes : Control) → pc + jump_size closes ≤ x.place
        → step s ≡ go (leave_scope x.level line (known nil) goes) (of_tree S ps env c) k → GoesOn n x.level closed goes k x.place → Agree S n s (before (of_code S ps pc regs opened) c)
    lands_ahead true shut has end goes le st after =
        let h = subst (HasAt S pc) (ahead_code x pc line le) has in
        let there = next_there S (pc + 1 + (x.place - (pc + 2) + 1)) (omega (arith, le, inside)) in
        let to : pc + 1 + (x.place - (pc + 2) + 1) ≡ x.place = omega (arith, le) in
        go_left S n s _ _ st
        (close_goes S n x.level line pc parted.base goes k (omega (arith, low, rel.fits, S.small)) (here_abc S Close x.level 0 0 false line pc (jump_over (x.place - (pc + 2)) line ∷ []) h) h.0 (omega (arith, end)) base_under
        (λ env1 regs1 c1 opened1 size1 rel1. go_right S n _ _ (before (of_code S parted.base (pc + 1 + (x.place - (pc + 2) + 1)) regs1 opened1) c1)
        (jump_step S.code (of_code S parted.base (pc + 1) regs1 opened1) c1 (x.place - (pc + 2)) there.0 h.1.1.0 (omega (arith, inside, S.short)) there.1)
        (subst (λ q. Agree S n (tree.at goes (of_tree S parted.base env1 c1) k) (before (of_code S parted.base q regs1 opened1) c1)) (sym to)
        (after n (omega arith) parted.base env1 regs1 c1 opened1 (record { numbered = parted.numbered; size = size1; rel = rel1 }))))
        ps parted.grown env regs c opened low rel)
    lands_ahead false shut has end goes le st after =
        let h = subst (HasAt S pc) (ahead_one x pc line le) has in
        let there = next_there S (pc + (x.place - (pc + 1) + 1)) (omega (arith, le, inside)) in
        let to : pc + (x.place - (pc + 1) + 1) ≡ x.place = omega (arith, le) in
        go_left S n s _ _ st
        (empty_goes S n x.level line pc parted.base goes k base_under
        (λ env1 regs1 c1 opened1 size1 rel1. go_right S n _ _ (before (of_code S parted.base (pc + (x.place - (pc + 1) + 1)) regs1 opened1) c1)
        (jump_step S.code (of_code S parted.base pc regs1 opened1) c1 (x.place - (pc + 1)) there.0 h.0 (omega (arith, inside, S.short)) there.1)
        (subst (λ q. Agree S n (tree.at goes (of_tree S parted.base env1 c1) k) (before (of_code S parted.base q regs1 opened1) c1)) (sym to)
        (after n (omega arith) parted.base env1 regs1 c1 opened1 (record { numbered = parted.numbered; size = size1; rel = rel1 }))))
        ps parted.grown env regs c opened low (nothing (shut refl)) rel)

    pub lands_back : (closes : Bool) → (closes ≡ false → NoneOpen ps c) → HasAt S pc (jump_code closes x pc line) → pc + jump_size closes < length S.code.own.code → (goes : Control) → x.place ≤ pc
        → step s ≡ go (leave_scope x.level line (known nil) (pay line goes)) (of_tree S ps env c) k
        → ((m : ℕ) → m < n → GoesOn m x.level closed goes k x.place) → Agree S n s (before (of_code S ps pc regs opened) c)
    lands_back true shut has end goes le st after =
        let h = subst (HasAt S pc) (back_code x pc line le) has in
        go_left S n s _ _ st
        (close_goes S n x.level line pc parted.base (pay line goes) k (omega (arith, low, rel.fits, S.small)) (here_abc S Close x.level 0 0 false line pc (jump_back (pc + 2 - x.place) line ∷ []) h) h.0 (omega (arith, end)) base_under
        (λ env1 regs1 c1 opened1 size1 rel1. again n after h.1.1 env1 regs1 c1 opened1 size1 rel1) ps parted.grown env regs c opened low rel)
      where
        again : (n : ℕ) → ((m : ℕ) → m < n → GoesOn m x.level closed goes k x.place) → HasAt S (pc + 1) (jump_back (pc + 2 - x.place) line ∷ [])
            → (env1 regs1 : List Value) (c1 : Captured) (opened1 : ℕ) → length env1 ≡ x.level → Rel S.hidden S.code.own.stack parted.base env1 c1 regs1
            → Agree S n (tree.at (pay line goes) (of_tree S parted.base env1 c1) k) (before (of_code S parted.base (pc + 1) regs1 opened1) c1)
        again zero after h env1 regs1 c1 opened1 size1 rel1 = tt
        again (suc m) after h env1 regs1 c1 opened1 size1 rel1 =
            back_goes (pc + 2 - x.place) x.place line (pc + 1) parted.base (omega (arith, le)) (omega (arith, end, S.short)) (omega (arith, le)) h inside m _ goes env1 regs1 c1 opened1 k refl rel1
            (λ env2 regs2 c2 size2 rel2. after m (omega arith) m (omega arith) parted.base env2 regs2 c2 opened1 (record { numbered = parted.numbered; size = size2 ∙ size1; rel = rel2 }))
    lands_back false shut has end goes le st after =
        let h = subst (HasAt S pc) (back_one x pc line le) has in
        go_left S n s _ _ st
        (empty_goes S n x.level line pc parted.base (pay line goes) k base_under
        (λ env1 regs1 c1 opened1 size1 rel1. again n after h env1 regs1 c1 opened1 size1 rel1) ps parted.grown env regs c opened low (nothing (shut refl)) rel)
      where
        again : (n : ℕ) → ((m : ℕ) → m < n → GoesOn m x.level closed goes k x.place) → HasAt S pc (jump_back (pc + 1 - x.place) line ∷ [])
            → (env1 regs1 : List Value) (c1 : Captured) (opened1 : ℕ) → length env1 ≡ x.level → Rel S.hidden S.code.own.stack parted.base env1 c1 regs1
            → Agree S n (tree.at (pay line goes) (of_tree S parted.base env1 c1) k) (before (of_code S parted.base pc regs1 opened1) c1)
        again zero after h env1 regs1 c1 opened1 size1 rel1 = tt
        again (suc m) after h env1 regs1 c1 opened1 size1 rel1 =
            back_goes (pc + 1 - x.place) x.place line pc parted.base (omega (arith, le)) (omega (arith, end, S.short)) (omega (arith, le)) h inside m _ goes env1 regs1 c1 opened1 k refl rel1
            (λ env2 regs2 c2 size2 rel2. after m (omega arith) m (omega arith) parted.base env2 regs2 c2 opened1 (record { numbered = parted.numbered; size = size2 ∙ size1; rel = rel2 }))
