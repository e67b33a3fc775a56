-- Within a numeric `for` its three hidden locals are there besides, and within a scope no local of it may be captured: what stands around holds as well.
use Rattle.std.proofs.Common.{inr, ⊎_elim, ◌≡◌, ℕ, ◌+◌, ◌<◌, ◌≤◌, Bool, true, false, cond, List, [], ◌∷◌, length, Option, sym, subst, arith}
use Rattle.int_core.specs.Value.{Value, nth}
use Rattle.int_core.specs.Ask.{Captured, Next}
use Rattle.tree_core.specs.Tree.{Body}
use Rattle.tree_activation.specs.Work.{Control, Work, Pending, State}
use Rattle.tree_activation.specs.Work as tree
use Rattle.tree_activation.specs.Jumps.{goes_to, breaks}
use Rattle.code_of.specs.Coded.{Coded}
use Rattle.code_of.specs.Jumps.{Reach, Landing, label_in}
use Rattle.exp_laws.specs.Setting.{Hidden, Setting, with_loop, with_scope}
use Rattle.exp_laws.proofs.Registers.{Among, AllUnder, IsFree, IsInteger, HeldBelow, HeldUnder, Rel}
use Rattle.exp_laws.proofs.Placing.{HasAt}
use Rattle.tree_terms.specs.Labels.{Named}
use Rattle.stat_laws.proofs.Standing.{GoesOn}
use Rattle.list_laws.proofs.Tests.{split}
use Rattle.stat_laws.proofs.Labels.{JumpGoes, Jumps}

-- captured locals

pub held_free : (held : List (ℕ × ℕ)) (n r : ℕ) → n ≤ r → HeldBelow held n → IsFree r held
held_free [] n r le h = tt
held_free (x ∷ held) n r le h = let below = h.0 in ((λ e. absurd (omega (arith, e, below))), held_free held n r le h.1)

none_between : (m t : ℕ) → m < t + 3 → (t ≡ m → ⊥) → (t + 1 ≡ m → ⊥) → (t + 2 ≡ m → ⊥) → m < t
none_between m t lt a b c =
    ⊎_elim (λ h. h)
    (λ h. ⊎_elim (λ g. absurd (a (omega arith)))
    (λ g. ⊎_elim (λ f. absurd (b (omega arith))) (λ f. absurd (c (omega arith))) (split m (t + 2)))
    (split m (t + 1)))
    (split m t)

-- where no local behind the hidden ones is captured, and none of these, all captured ones are in front of them
pub held_down : (held : List (ℕ × ℕ)) (t : ℕ) → HeldBelow held (t + 3) → IsFree t held → IsFree (t + 1) held → IsFree (t + 2) held → HeldBelow held t
held_down [] t h a b c = tt
held_down (x ∷ held) t h a b c = (none_between x.0 t h.0 a.0 b.0 c.0, held_down held t h.1 a.1 b.1 c.1)

pub under_hiding : (hidden : List ℕ) (t : ℕ) → AllUnder hidden t → AllUnder (t ∷ (t + 1) ∷ (t + 2) ∷ hidden) (t + 3)
under_hiding hidden t h r a =
    ⊎_elim (λ e. omega (arith, e))
    (λ b. ⊎_elim (λ e. omega (arith, e)) (λ d. ⊎_elim (λ e. omega (arith, e)) (λ m. let lt = h r m in omega (arith, lt)) d) b)
    a

-- the relation within the loop and around it

module _ (hidden : Hidden) (stack t : ℕ) (ps : List Pending) (env : List Value) (c : Captured) (regs : List Value) where
  pub rel_outer : Rel (with_loop hidden t) stack ps env c regs → Rel hidden stack ps env c regs
  rel_outer h = record {
    agree = h.agree;
    held = h.held;
    hides = record { free = λ r m. h.hides.free r (inr (inr (inr m))); whole = λ r m lt. h.hides.whole r (inr (inr (inr m))) lt; low = h.hides.low; bare = h.hides.bare };
    ascends = h.ascends;
    fits = h.fits;
    room = h.room;
  }

  pub rel_hiding : HeldBelow c.held t → IsInteger (nth env t) → IsInteger (nth env (t + 1)) → IsInteger (nth env (t + 2)) → Rel hidden stack ps env c regs → Rel (with_loop hidden t) stack ps env c regs
  rel_hiding low a b d h = record {
    agree = h.agree;
    held = h.held;
    hides = record { free = λ r m. free r m; whole = λ r m lt. whole r m lt; low = h.hides.low; bare = h.hides.bare };
    ascends = h.ascends;
    fits = h.fits;
    room = h.room;
  }
    where
      one_free : (r q : ℕ) → r ≡ q → t ≤ q → IsFree r c.held
      one_free r q e le = held_free c.held t r (omega (arith, e, le)) low

      free : (r : ℕ) → Among r (t ∷ (t + 1) ∷ (t + 2) ∷ hidden.integers) → IsFree r c.held
      free r m = ⊎_elim (λ e. one_free r t e (omega arith)) (λ m1. ⊎_elim (λ e. one_free r (t + 1) e (omega arith)) (λ m2. ⊎_elim (λ e. one_free r (t + 2) e (omega arith)) (λ m3. h.hides.free r m3) m2) m1) m

      one_whole : (r q : ℕ) → r ≡ q → IsInteger (nth env q) → IsInteger (nth env r)
      one_whole r q e i = subst (λ n. IsInteger (nth env n)) (sym e) i

      whole : (r : ℕ) → Among r (t ∷ (t + 1) ∷ (t + 2) ∷ hidden.integers) → r < length env → IsInteger (nth env r)
      whole r m lt = ⊎_elim (λ e. one_whole r t e a) (λ m1. ⊎_elim (λ e. one_whole r (t + 1) e b) (λ m2. ⊎_elim (λ e. one_whole r (t + 2) e d) (λ m3. h.hides.whole r m3 lt) m2) m1) m

-- the relation within a scope, of which locals are captured or not, and around it

low_in : (levels : List ℕ) (captures : Bool) (level : ℕ) (held : List (ℕ × ℕ)) → HeldBelow held level → HeldUnder held levels → HeldUnder held (cond captures levels (level ∷ levels))
low_in levels true level held below h = h
low_in levels false level held below h = (below, h)

low_out : (levels : List ℕ) (captures : Bool) (level : ℕ) (held : List (ℕ × ℕ)) → HeldUnder held (cond captures levels (level ∷ levels)) → HeldUnder held levels
low_out levels true level held h = h
low_out levels false level held h = h.1

pub low_there : (levels : List ℕ) (captures : Bool) (level : ℕ) (held : List (ℕ × ℕ)) → HeldUnder held (cond captures levels (level ∷ levels)) → captures ≡ false → HeldBelow held level
low_there levels true level held h e = absurd (cc)
low_there levels false level held h e = h.0

module _ (hidden : Hidden) (captures : Bool) (level stack : ℕ) (ps : List Pending) (env : List Value) (c : Captured) (regs : List Value) where
  pub rel_unscoped : Rel (with_scope hidden captures level) stack ps env c regs → Rel hidden stack ps env c regs
  rel_unscoped h = record {
    agree = h.agree;
    held = h.held;
    hides = record { free = h.hides.free; whole = h.hides.whole; low = low_out hidden.free_from captures level c.held h.hides.low; bare = h.hides.bare };
    ascends = h.ascends;
    fits = h.fits;
    room = h.room;
  }

  pub rel_scoped : HeldBelow c.held level → Rel hidden stack ps env c regs → Rel (with_scope hidden captures level) stack ps env c regs
  rel_scoped below h = record {
    agree = h.agree;
    held = h.held;
    hides = record { free = h.hides.free; whole = h.hides.whole; low = low_in hidden.free_from captures level c.held below h.hides.low; bare = h.hides.bare };
    ascends = h.ascends;
    fits = h.fits;
    room = h.room;
  }

-- where more is known of locals than around

module _ (S : Setting) (h : Hidden) where
  pub has_inner : (pc : ℕ) (code : List Coded) → HasAt S pc code → HasAt (record S { hidden = h }) pc code
  has_inner pc [] a = tt
  has_inner pc (x ∷ code) a = (a.0, (a.1.0, has_inner (pc + 1) code a.1.1))

  has_outer : (pc : ℕ) (code : List Coded) → HasAt (record S { hidden = h }) pc code → HasAt S pc code
  has_outer pc [] a = tt
  has_outer pc (x ∷ code) a = (a.0, (a.1.0, has_outer (pc + 1) code a.1.1))

  module _ (out : (ps : List Pending) (env : List Value) (c : Captured) (regs : List Value) → Rel h S.code.own.stack ps env c regs → Rel S.hidden S.code.own.stack ps env c regs) where
    pub goes_inner : (n t : ℕ) (closed : List ℕ) (goes : Control) (k : List Work) (pc : ℕ) → GoesOn S n t closed goes k pc → GoesOn (record S { hidden = h }) n t closed goes k pc
    goes_inner n t closed goes k pc a m le ps env regs c opened st = a m le ps env regs c opened (record { numbered = st.numbered; size = st.size; rel = out ps env c regs st.rel })

    jump_inner : (back n lo hi t : ℕ) (closed : List ℕ) (jump : ℕ → tree.Activation → List Work → Next Body State) (there : Option Landing) (k : List Work)
        → JumpGoes S back n lo hi t closed jump there k → JumpGoes (record S { hidden = h }) back n lo hi t closed jump there k
    jump_inner back n lo hi t closed jump there k a m line pc ps env regs c opened more s le closes shut has x y numbered above size rel st =
        a m line pc ps env regs c opened more s le closes shut (has_outer pc _ has) x y numbered above size (out ps env c regs rel) st

    pub jumps_inner : (back n lo hi t : ℕ) (closed : List ℕ) (named : List Named) (loops : Bool) (reach : Reach) (k : List Work)
        → Jumps S back n lo hi t closed named loops reach k → Jumps (record S { hidden = h }) back n lo hi t closed named loops reach k
    jumps_inner back n lo hi t closed named loops reach k a = record {
      gotos = λ name ok. jump_inner back n lo hi t closed (goes_to name) (label_in name reach.labels) k (a.gotos name ok);
      exits = λ ok. jump_inner back n lo hi t closed breaks reach.exit k (a.exits ok);
    }
