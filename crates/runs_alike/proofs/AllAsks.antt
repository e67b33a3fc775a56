-- What holds through n asks, for each n, goes on for all n at once: an activation's own steps up to its ask do not hang on the bound.
use Rattle.std.proofs.Common.{◌≡◌, ℕ, zero, suc, ◌+◌, Bool, List, refl, sym, ◌∙◌, ap, subst, arith}
use Rattle.int_core.specs.Value.{Value}
use Rattle.int_core.specs.Ask.{Ask, reads_upvalue, writes_upvalue, makes_table, makes_function, fills_table, pays, opens, operates, calls, calls_last, marks, closes, raises, leaves, Next, goes_on, says, stuck, on_from, runs, AskLike, NextLike}
use Rattle.tree_core.specs.Tree.{Body}
use Rattle.tree_activation.specs.Work.{when_captured, State as TreeState}
use Rattle.tree_activation.specs.Activation.{start, step}
use Rattle.code_core.specs.Prototype.{Prototype}
use Rattle.machine_core.specs.Talk.{State as CodeState, talk_start, talk_step}
use Rattle.lua_meaning.specs.World.{as_known}
use Rattle.code_means.specs.Means.{Same, Means}
use Rattle.code_means.proofs.Same.{NoOwn, like_no_own, known_no_own}

-- more steps change nothing once it asks

module _ {F S : Type 0} (move : S → Next F S) where
  more_on : (x : Next F S) (f g : S → Next F S) → NoOwn (on_from x f) → ((s : S) → NoOwn (f s) → g s ≡ f s) → on_from x g ≡ on_from x f
  more_on (goes_on s) f g a more = more s a
  more_on (says q line shared k) f g a more = refl
  more_on stuck f g a more = refl

  pub at_once : (x : Next F S) (f : S → Next F S) → NoOwn x → on_from x f ≡ x
  at_once (goes_on s) f a = absurd a
  at_once (says q line shared k) f a = refl
  at_once stuck f a = refl

  runs_more : (m i : ℕ) (s : S) → NoOwn (runs move i s) → runs move (i + m) s ≡ runs move i s
  runs_more zero zero s a = refl
  runs_more (suc m) zero s a = ap (λ j. runs move j s) (let e : 0 + suc m ≡ suc m = omega arith in e) ∙ at_once (move s) (runs move m) a
  runs_more m (suc i) s a = ap (λ j. runs move j s) (let e : suc i + m ≡ suc (i + m) = omega arith in e) ∙ more_on (move s) (runs move i) (runs move (i + m)) a (runs_more m i)

  pub asks_once : (i j : ℕ) (s : S) → NoOwn (runs move i s) → NoOwn (runs move j s) → runs move i s ≡ runs move j s
  asks_once i j s a b = sym (runs_more j i s a) ∙ ap (λ n. runs move n s) (let e : i + j ≡ j + i = omega arith in e) ∙ runs_more i j s b

-- an ask that is alike by each R n
all_asks : {A B : Type 0} (R : ℕ → A → B → Type 0) (q : Ask A) (r : Ask B) → ((n : ℕ) → AskLike (R n) q r) → AskLike (λ a b. (n : ℕ) → R n a b) q r
all_asks R (reads_upvalue u) (reads_upvalue v) like = like 0
all_asks R (writes_upvalue u v) (writes_upvalue w x) like = like 0
all_asks R makes_table makes_table like = tt
all_asks R (makes_function f cells) (makes_function g others) like = ((λ n. (like n).0), (like 0).1)
all_asks R (fills_table t last vs) (fills_table u from ws) like = like 0
all_asks R pays pays like = tt
all_asks R (opens v) (opens w) like = like 0
all_asks R (operates op vs) (operates other ws) like = like 0
all_asks R (calls f vs) (calls g ws) like = like 0
all_asks R (calls_last f vs) (calls_last g ws) like = like 0
all_asks R (marks v name) (marks w other) like = like 0
all_asks R (closes v e) (closes w f) like = like 0
all_asks R (raises text) (raises other) like = like 0
all_asks R (leaves l) (leaves m) like = like 0
all_asks R q r like = absurd (like 0)

all_next : {A B S T : Type 0} (R : ℕ → A → B → Type 0) (Q : ℕ → S → T → Type 0) (x : Next A S) (y : Next B T) → ((n : ℕ) → NextLike (R n) (Q n) x y)
    → NextLike (λ a b. (n : ℕ) → R n a b) (λ s t. (n : ℕ) → Q n s t) x y
all_next R Q (says q line shared k) (says r other also l) like = (all_asks R q r (λ n. (like n).0), ((like 0).1.0, ((like 0).1.1.0, λ x fits n. (like n).1.1.1 x fits)))
all_next R Q stuck stuck like = tt
all_next R Q x y like = absurd (like 0)

-- the two talk alike
abbrev pub Talk : Bool → Body → Prototype → TreeState → CodeState → Type 0
Talk l b p s t = (n : ℕ) → Same l n p s t

abbrev pub Made : Bool → Body → Prototype → Type 0
Made l b p = Means l p b

-- both ask the same after some own steps, and talk alike again after each answer that fits
pub all_same : (l : Bool) (b : Body) (p : Prototype) (s : TreeState) (t : CodeState) → Talk l b p s t
    → (i : ℕ) × (j : ℕ) × NextLike (Made l) (Talk l b p) (as_known l (runs step i s)) (runs (talk_step p) j t)
all_same l b p s t same =
    let R : ℕ → Body → Prototype → Type 0 = λ n c q. (arguments : List Value) → Same l n q (start when_captured c arguments) (talk_start q arguments) in
    let Q : ℕ → TreeState → CodeState → Type 0 = λ n. Same l n p in
    let first = same 1 in
    let a = like_no_own (R 0) (Q 0) (as_known l (runs step first.0 s)) (runs (talk_step p) first.1 t) first.2 in (
      first.0,
      first.1,
      all_next R Q (as_known l (runs step first.0 s)) (runs (talk_step p) first.1 t) (λ n.
          let g = same (suc n) in
          let c = like_no_own (R n) (Q n) (as_known l (runs step g.0 s)) (runs (talk_step p) g.1 t) g.2 in
          subst (λ x. NextLike (R n) (Q n) (as_known l x) (runs (talk_step p) first.1 t)) (asks_once step g.0 first.0 s (known_no_own l (runs step g.0 s) c.0) (known_no_own l (runs step first.0 s) a.0))
          (subst (λ y. NextLike (R n) (Q n) (as_known l (runs step g.0 s)) y) (asks_once (talk_step p) g.1 first.1 t c.1 a.1) g.2)),
    )
