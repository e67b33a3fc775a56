-- Code that means a body asks as the body does.
use Rattle.std.proofs.Common.{◌≡◌, ◌↔◌, ℕ, zero, suc, Bool, true, false, List, [], ◌∷◌, refl, sym, ◌∙◌, ap, subst}
use Rattle.int_core.specs.Value.{Value}
use Rattle.int_core.specs.Ask.{Ask, reads_upvalue, writes_upvalue, makes_table, makes_function, fills_table, pays, opens, operates, calls, calls_last, marks, closes, raises, leaves, Answer, Next, goes_on, says, stuck, on_from, runs, AskLike, NextLike, IsReplyTo, IsQuiet, FitsAsk}
use Rattle.tree_core.specs.Tree.{Body}
use Rattle.tree_activation.specs.Work.{when_captured}
use Rattle.tree_activation.specs.Work as tree
use Rattle.tree_activation.specs.Activation.{start, step}
use Rattle.code_core.specs.Prototype.{Prototype}
use Rattle.machine_core.specs.Talk as code
use Rattle.machine_core.specs.Talk.{talk_start, talk_step}
use Rattle.lua_meaning.specs.World.{as_known}
use Rattle.code_means.specs.Means.{Same, Means}
use Rattle.code_means.specs.Asks.{Said, shown, SaysLast, SaysThen, Asks, tree_talk, code_talk}

module _ {A B : Type 0} (R : A → B → Type 0) where
  shown_same : (q : Ask A) (r : Ask B) → AskLike R q r → shown q ≡ shown r
  shown_same (reads_upvalue u) (reads_upvalue v) like = ap reads_upvalue like
  shown_same (writes_upvalue u v) (writes_upvalue w x) like = rw (like.0, like.1) refl
  shown_same makes_table makes_table like = refl
  shown_same (makes_function f cells) (makes_function g others) like = ap (makes_function tt) like.1
  shown_same (fills_table t last vs) (fills_table u from ws) like = rw (like.0, like.1.0, like.1.1) refl
  shown_same pays pays like = refl
  shown_same (opens v) (opens w) like = ap opens like
  shown_same (operates op vs) (operates other ws) like = rw (like.0, like.1) refl
  shown_same (calls f vs) (calls g ws) like = rw (like.0, like.1) refl
  shown_same (calls_last f vs) (calls_last g ws) like = rw (like.0, like.1) refl
  shown_same (marks v name) (marks w other) like = rw (like.0, like.1) refl
  shown_same (closes v e) (closes w f) like = rw (like.0, like.1) refl
  shown_same (raises text) (raises other) like = ap raises like
  shown_same (leaves l) (leaves m) like = ap leaves like
  shown_same q r like = absurd like

  carry : (q : Ask A) (r : Ask B) (shared : List (ℕ × Value)) (x : Answer)
      → (IsReplyTo q x.reply → IsReplyTo r x.reply) → (IsQuiet r → IsQuiet q) → FitsAsk q shared x → FitsAsk r shared x
  carry q r shared x reply quiet fits = record { reply = reply fits.reply; count = fits.count; kept = λ z. fits.kept (quiet z) }

  carry_back : (q : Ask A) (r : Ask B) (shared : List (ℕ × Value)) (x : Answer)
      → (IsReplyTo r x.reply → IsReplyTo q x.reply) → (IsQuiet q → IsQuiet r) → FitsAsk r shared x → FitsAsk q shared x
  carry_back q r shared x reply quiet fits = record { reply = reply fits.reply; count = fits.count; kept = λ z. fits.kept (quiet z) }

  fits_same : (q : Ask A) (r : Ask B) (shared : List (ℕ × Value)) (x : Answer) → AskLike R q r → FitsAsk q shared x ↔ FitsAsk r shared x
  fits_same (reads_upvalue u) (reads_upvalue v) shared x like = (carry _ _ shared x (λ z. z) (λ z. z), carry_back _ _ shared x (λ z. z) (λ z. z))
  fits_same (writes_upvalue u v) (writes_upvalue w y) shared x like = (carry _ _ shared x (λ z. z) (λ z. z), carry_back _ _ shared x (λ z. z) (λ z. z))
  fits_same makes_table makes_table shared x like = (carry _ _ shared x (λ z. z) (λ z. z), carry_back _ _ shared x (λ z. z) (λ z. z))
  fits_same (makes_function f cells) (makes_function g others) shared x like = (carry _ _ shared x (λ z. z) (λ z. z), carry_back _ _ shared x (λ z. z) (λ z. z))
  fits_same (fills_table t last vs) (fills_table u from ws) shared x like = (carry _ _ shared x (λ z. z) (λ z. z), carry_back _ _ shared x (λ z. z) (λ z. z))
  fits_same pays pays shared x like = (carry _ _ shared x (λ z. z) (λ z. z), carry_back _ _ shared x (λ z. z) (λ z. z))
  fits_same (opens v) (opens w) shared x like = (carry _ _ shared x (λ z. z) (λ z. z), carry_back _ _ shared x (λ z. z) (λ z. z))
  fits_same (operates op vs) (operates other ws) shared x like = (carry _ _ shared x (λ z. z) (λ z. z), carry_back _ _ shared x (λ z. z) (λ z. z))
  fits_same (calls f vs) (calls g ws) shared x like = (carry _ _ shared x (λ z. z) (λ z. z), carry_back _ _ shared x (λ z. z) (λ z. z))
  fits_same (calls_last f vs) (calls_last g ws) shared x like = (carry _ _ shared x (λ z. z) (λ z. z), carry_back _ _ shared x (λ z. z) (λ z. z))
  fits_same (marks v name) (marks w other) shared x like = (carry _ _ shared x (λ z. z) (λ z. z), carry_back _ _ shared x (λ z. z) (λ z. z))
  fits_same (closes v e) (closes w f) shared x like = (carry _ _ shared x (λ z. z) (λ z. z), carry_back _ _ shared x (λ z. z) (λ z. z))
  fits_same (raises text) (raises other) shared x like = (carry _ _ shared x (λ z. z) (λ z. z), carry_back _ _ shared x (λ z. z) (λ z. z))
  fits_same (leaves l) (leaves m) shared x like = (carry _ _ shared x (λ z. z) (λ z. z), carry_back _ _ shared x (λ z. z) (λ z. z))
  fits_same q r shared x like = absurd like

  module _ {S T : Type 0} (Q : S → T → Type 0) where
    last_same : (next : Next A S) (other : Next B T) (said : List Said) → NextLike R Q next other → SaysLast next said ↔ SaysLast other said
    last_same (says q line shared k) (says r place also l) [] like = ((λ z. z), (λ z. z))
    last_same (says q line shared k) (says r place also l) (d ∷ []) like =
        let e : record { ask = shown q; line = line; shared = shared } ≡ record { ask = shown r; line = place; shared = also } = rw (shown_same q r like.0, like.1.0, like.1.1.0) refl in
        ((λ z. z ∙ e), (λ z. z ∙ sym e))
    last_same (says q line shared k) (says r place also l) (d ∷ c ∷ ds) like = ((λ z. z), (λ z. z))
    last_same stuck stuck said like = ((λ z. z), (λ z. z))
    last_same next other said like = absurd like

    then_same : (next : Next A S) (other : Next B T) (x : Answer) (said : List Said) (goes : S → List Said → Type 0) (on : T → List Said → Type 0)
        → NextLike R Q next other → ((s : S) (t : T) → Q s t → (ds : List Said) → goes s ds ↔ on t ds) → SaysThen next x said goes ↔ SaysThen other x said on
    then_same (says q line shared k) (says r place also l) x [] goes on like same = ((λ z. z), (λ z. z))
    then_same (says q line shared k) (says r place also l) x (d ∷ ds) goes on like same =
        let e : record { ask = shown q; line = line; shared = shared } ≡ record { ask = shown r; line = place; shared = also } = rw (shown_same q r like.0, like.1.0, like.1.1.0) refl in
        let over : FitsAsk r shared x ↔ FitsAsk r also x = (subst (λ c. FitsAsk r c x) like.1.1.0, subst (λ c. FitsAsk r c x) (sym like.1.1.0)) in
        let fits = fits_same q r shared x like.0 in (
          (λ z. (z.0 ∙ e, (over.0 (fits.0 z.1.0), (same (k x) (l x) (like.1.1.1 x z.1.0) ds).0 z.1.1))),
          (λ z. (z.0 ∙ sym e, (fits.1 (over.1 z.1.0), (same (k x) (l x) (like.1.1.1 x (fits.1 (over.1 z.1.0))) ds).1 z.1.1))),
        )
    then_same stuck stuck x said goes on like same = ((λ z. z), (λ z. z))
    then_same next other x said goes on like same = absurd like

-- the first ask is determined

abbrev pub NoOwn : {F S : Type 0} → Next F S → Type 0
NoOwn (goes_on s) = ⊥
NoOwn _ = Unit {0}

on_same : {F S : Type 0} → (next : Next F S) (f g : S → Next F S) → NoOwn (on_from next f) → NoOwn (on_from next g)
    → ((s : S) → NoOwn (f s) → NoOwn (g s) → f s ≡ g s) → on_from next f ≡ on_from next g
on_same (goes_on s) f g a b same = same s a b
on_same (says q line shared k) f g a b same = refl
on_same stuck f g a b same = refl

on_here : {F S : Type 0} → (next : Next F S) (g : S → Next F S) → NoOwn next → next ≡ on_from next g
on_here (goes_on s) g a = absurd a
on_here (says q line shared k) g a = refl
on_here stuck g a = refl

same_first : {F S : Type 0} → (step : S → Next F S) (i j : ℕ) (s : S) → NoOwn (runs step i s) → NoOwn (runs step j s) → runs step i s ≡ runs step j s
same_first step zero zero s a b = refl
same_first step zero (suc j) s a b = on_here (step s) (runs step j) a
same_first step (suc i) zero s a b = sym (on_here (step s) (runs step i) b)
same_first step (suc i) (suc j) s a b = on_same (step s) (runs step i) (runs step j) a b (λ t. same_first step i j t)

last_no_own : {F S : Type 0} → (next : Next F S) (said : List Said) → SaysLast next said → NoOwn next
last_no_own (goes_on s) said h = h
last_no_own (says q line shared k) said h = tt
last_no_own stuck said h = tt

then_no_own : {F S : Type 0} → (next : Next F S) (x : Answer) (said : List Said) (goes : S → List Said → Type 0) → SaysThen next x said goes → NoOwn next
then_no_own (goes_on s) x said goes h = h
then_no_own (says q line shared k) x said goes h = tt
then_no_own stuck x said goes h = tt

pub known_no_own : {F S : Type 0} → (lines : Bool) (next : Next F S) → NoOwn (as_known lines next) → NoOwn next
known_no_own true next a = a
known_no_own false (goes_on s) a = a
known_no_own false (says q line shared k) a = tt
known_no_own false stuck a = tt

pub like_no_own : {A B S T : Type 0} → (R : A → B → Type 0) (Q : S → T → Type 0) (next : Next A S) (other : Next B T) → NextLike R Q next other → NoOwn next × NoOwn other
like_no_own R Q (says q line shared k) (says r place also l) like = (tt, tt)
like_no_own R Q stuck stuck like = (tt, tt)
like_no_own R Q next other like = absurd like

-- asks one after another

abbrev count : List Answer → ℕ
count [] = zero
count (x ∷ xs) = suc (count xs)

abbrev InnerSame : Bool → ℕ → Body → Prototype → Type 0
InnerSame lines n b q = (arguments : List Value) → Same lines n q (start when_captured b arguments) (talk_start q arguments)

module _ (lines : Bool) (p : Prototype) where
  abbrev of_tree : ℕ → tree.State → Next Body tree.State
  of_tree i s = as_known lines (runs step i s)

  -- what is found after i steps is what is found after j
  tree_first : (i j : ℕ) (s : tree.State) → NoOwn (of_tree i s) → NoOwn (of_tree j s) → of_tree i s ≡ of_tree j s
  tree_first i j s a b = ap (as_known lines) (same_first step i j s (known_no_own lines (runs step i s) a) (known_no_own lines (runs step j s) b))

  code_first : (i j : ℕ) (t : code.State) → NoOwn (code_talk p i t) → NoOwn (code_talk p j t) → code_talk p i t ≡ code_talk p j t
  code_first i j t a b = same_first (talk_step p) i j t a b

  pub asks_same : (answers : List Answer) (s : tree.State) (t : code.State) (said : List Said) → Same lines (suc (count answers)) p s t
      → Asks (tree_talk lines) answers s said ↔ Asks (code_talk p) answers t said
  asks_same [] s t said same =
      let R = InnerSame lines zero in
      let Q = Same lines zero p in
      let none = like_no_own R Q (of_tree same.0 s) (code_talk p same.1 t) same.2 in
      let one = last_same R Q (of_tree same.0 s) (code_talk p same.1 t) said same.2 in (
        (λ h. (same.1, one.0 (subst (λ n. SaysLast n said) (tree_first h.0 same.0 s (last_no_own (of_tree h.0 s) said h.1) none.0) h.1))),
        (λ h. (same.0, one.1 (subst (λ n. SaysLast n said) (code_first h.0 same.1 t (last_no_own (code_talk p h.0 t) said h.1) none.1) h.1))),
      )
  asks_same (x ∷ xs) s t said same =
      let R = InnerSame lines (suc (count xs)) in
      let Q = Same lines (suc (count xs)) p in
      let goes = Asks (tree_talk lines) xs in
      let on = Asks (code_talk p) xs in
      let none = like_no_own R Q (of_tree same.0 s) (code_talk p same.1 t) same.2 in
      let one = then_same R Q (of_tree same.0 s) (code_talk p same.1 t) x said goes on same.2 (λ s' t' q ds. asks_same xs s' t' ds q) in (
        (λ h. (same.1, one.0 (subst (λ n. SaysThen n x said goes) (tree_first h.0 same.0 s (then_no_own (of_tree h.0 s) x said goes h.1) none.0) h.1))),
        (λ h. (same.0, one.1 (subst (λ n. SaysThen n x said on) (code_first h.0 same.1 t (then_no_own (code_talk p h.0 t) x said on h.1) none.1) h.1))),
      )

  pub means_same : (b : Body) → Means lines p b → (arguments : List Value) (answers : List Answer) (said : List Said)
      → Asks (tree_talk lines) answers (start when_captured b arguments) said ↔ Asks (code_talk p) answers (talk_start p arguments) said
  means_same b means arguments answers said =
      asks_same answers (start when_captured b arguments) (talk_start p arguments) said (means (suc (count answers)) arguments)
