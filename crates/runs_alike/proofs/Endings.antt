-- A run of a world that ends, ends alike in the world that is dressed anew.
use Rattle.std.proofs.Common.{◌≡◌, ℕ, zero, suc, ◌+◌, ◌-◌, ◌≤◌, Bool, true, List, [], ◌∷◌, ◌++◌, Option, Some, None, refl, sym, ◌∙◌, ap, ap₂, subst, arith}
use Rattle.std.specs.Prelude.{option_map}
use Rattle.lua_meaning.specs.World.{System, yielded, returned, failed_with, spent, broken, Now, ends, World}
use Rattle.lua_meaning.specs.Step.{Primitives, has_ended, ticks}
use Rattle.lua_meaning.specs.Meaning.{report, Outcome, has_returned, has_failed, has_spent, is_suspended, is_broken, Meaning, behind, meant, at_end, suspends, handed_line, run_from, onward}
use Rattle.code_means.specs.Runs.{RunAlike}
use Rattle.runs_alike.specs.Alike.{PrimitivesAlike}
use Rattle.runs_alike.proofs.Dressed.{Part, dress_world, Like, Out, AsksAreMid, BeginAlike}
use Rattle.runs_alike.proofs.Ticking.{sum_of, stay, ticks_sum, AllPendAlike}
use Rattle.runs_alike.proofs.Ticks.{ticks_out}
use Rattle.list_laws.proofs.Items.{some_same}

sum_is : (m k : ℕ) → sum_of m k ≡ m + k
sum_is zero k = omega arith
sum_is (suc m) k = let h = sum_is m k in omega (arith, h)

pub gives_ended : {F S : Type 0} → (now : Now) (W : World F S) (goes : World F S → Option (Meaning F S)) (m : Meaning F S) → at_end now W goes ≡ Some m → has_ended now ≡ true
gives_ended (ends ending) W goes m given = refl
gives_ended _ W goes m given = absurd (cc)

-- how the worlds stand to each other in which two runs are suspended
abbrev pub WaitAlike : {A B S T : Type 0} → (World A S → World B T → Type 0) → Outcome A S → Outcome B T → Type 0
WaitAlike Waits (is_suspended U) (is_suspended V) = Waits U V
WaitAlike Waits x y = Unit {0}

-- what is given after sufficiently many steps a turn is alike, and so are the worlds in which both are suspended
pub record Later {A B S T : Type 0} (Waits : World A S → World B T → Type 0) (m : Meaning A S) (gives_by : ℕ → Option (Meaning B T)) : Type 0 where
  pub count : ℕ
  pub other : Meaning B T
  pub gives : (z : ℕ) → count ≤ z → gives_by z ≡ Some other
  pub alike : RunAlike m other
  pub waits : WaitAlike Waits m.outcome other.outcome

module _ {A B S T : Type 0} (Waits : World A S → World B T → Type 0) where
  like_of : (x m : Meaning A S) (y : Meaning B T) → Some x ≡ Some m → RunAlike x y → RunAlike m y
  like_of x m y given alike = subst (λ z. RunAlike z y) (some_same x m given) alike

  waits_of : (x m : Meaning A S) (y : Meaning B T) → Some x ≡ Some m → WaitAlike Waits x.outcome y.outcome → WaitAlike Waits m.outcome y.outcome
  waits_of x m y given waits = subst (λ (z : Meaning A S). WaitAlike Waits z.outcome y.outcome) (some_same x m given) waits

  -- where after some more steps the same is given
  pub later_on : {f g : ℕ → Option (Meaning B T)} (m : Meaning A S) (n : ℕ) → Later Waits m g → ((z : ℕ) → n ≤ z → f z ≡ g z) → Later Waits m f
  later_on m n l same = record {
    count = n + l.count;
    other = l.other;
    gives = λ z within. same z (omega (arith, within)) ∙ l.gives z (omega (arith, within));
    alike = l.alike;
    waits = l.waits;
  }

  last_out : (x m : Meaning A S) (y : Meaning B T) → Some x ≡ Some m → RunAlike x y → WaitAlike Waits x.outcome y.outcome → Later Waits m (λ z. Some y)
  last_out x m y given alike waits = record { count = zero; other = y; gives = λ z within. refl; alike = like_of x m y given alike; waits = waits_of x m y given waits }

  pub suspends_out : (U : World A S) (V : World B T) → Waits U V → (m : Meaning A S) → suspends U ≡ Some m → Later Waits m (λ z. suspends V)
  suspends_out U V waits m given = last_out (record { printed = []; outcome = is_suspended U }) m (record { printed = []; outcome = is_suspended V }) given (record { printed = refl; outcome = tt }) waits

  behind_out : (text more : List ℕ) (o : Option (Meaning A S)) (on : ℕ → Option (Meaning B T)) (m : Meaning A S) → text ≡ more → option_map (behind text) o ≡ Some m
      → ((y : Meaning A S) → o ≡ Some y → Later Waits y on) → Later Waits m (λ z. option_map (behind more) (on z))
  behind_out text more None on m same given goes = absurd (cc)
  behind_out text more (Some y) on m same given goes =
      let l = goes y refl in
      record {
        count = l.count;
        other = behind more l.other;
        gives = λ z within. ap (option_map (behind more)) (l.gives z within);
        alike = like_of (behind text y) m (behind more l.other) given (record { printed = ap₂ (λ t p. t ++ p) same l.alike.printed; outcome = l.alike.outcome });
        waits = waits_of (behind text y) m (behind more l.other) given l.waits;
      }

  -- a turn's end on both sides
  pub turn_end : (now : Now) (U : World A S) (V : World B T) (goes : World A S → Option (Meaning A S)) (on : ℕ → World B T → Option (Meaning B T)) (m : Meaning A S) → U.printed ≡ V.printed → at_end now U goes ≡ Some m
      → ((y : Meaning A S) → goes U ≡ Some y → Later Waits y (λ z. on z V)) → Later Waits m (λ z. at_end now V (on z))
  turn_end (ends (yielded vs)) U V goes on m same given more =
      behind_out (U.printed ++ report (yielded vs)) (V.printed ++ report (yielded vs)) (goes U) (λ z. on z V) m (ap (λ t. t ++ report (yielded vs)) same) given more
  turn_end (ends (returned vs)) U V goes on m same given more =
      last_out (meant U (returned vs) has_returned) m (meant V (returned vs) has_returned) given (record { printed = ap (λ t. t ++ report (returned vs)) same; outcome = tt }) tt
  turn_end (ends (failed_with e)) U V goes on m same given more =
      last_out (meant U (failed_with e) has_failed) m (meant V (failed_with e) has_failed) given (record { printed = ap (λ t. t ++ report (failed_with e)) same; outcome = tt }) tt
  turn_end (ends spent) U V goes on m same given more =
      last_out (meant U spent has_spent) m (meant V spent has_spent) given (record { printed = ap (λ t. t ++ report spent) same; outcome = tt }) tt
  turn_end (ends broken) U V goes on m same given more =
      last_out (meant U broken is_broken) m (meant V broken is_broken) given (record { printed = ap (λ t. t ++ report broken) same; outcome = tt }) tt
  turn_end _ U V goes on m same given more = absurd (cc)

module _ {A B S T : Type 0} (Sa : System A S) (Sb : System B T) (R : Bool → A → B → Type 0) (Q : Bool → A → B → S → T → Type 0) (asks : AsksAreMid Sa Sb R Q) (begins : BeginAlike Sa Sb R Q)
    (pends : AllPendAlike Sa Sb R Q) (pa : Primitives A) (pb : Primitives B) (prims : PrimitivesAlike R pa pb) where
  abbrev Alike : World A S → List B → List (List (Part T)) → List (Part T) → Type 0
  Alike W bs xss xs = Like Sa Sb R Q W bs xss xs

  -- a turn that has ended at U ends on the other side at the same, dressed anew
  pub record Turn (U : World A S) (V : World B T) : Type 0 where
    pub bs : List B
    pub xss : List (List (Part T))
    pub xs : List (Part T)
    pub count : ℕ
    pub gives : (z : ℕ) → count ≤ z → ticks Sb pb z V ≡ dress_world U bs xss xs
    pub like : Alike U bs xss xs

  turn_out : (k : ℕ) (W : World A S) (bs : List B) (xss : List (List (Part T))) (xs : List (Part T)) → Alike W bs xss xs → has_ended (ticks Sa pa k W).now ≡ true
      → Turn (ticks Sa pa k W) (dress_world W bs xss xs)
  turn_out k W bs xss xs like ended =
      let r = ticks_out Sa Sb R Q asks begins pends pa pb prims k W bs xss xs like in
      let V = dress_world W bs xss xs in
      record {
        bs = r.out.bs;
        xss = r.out.xss;
        xs = r.out.xs;
        count = r.count;
        gives = λ z within.
            let rest = sum_is r.count (z - r.count) in
            let whole : z ≡ sum_of r.count (z - r.count) = omega (arith, rest, within) in
            ap (λ c. ticks Sb pb c V) whole ∙ ticks_sum Sb pb r.count (z - r.count) V ∙ ap (ticks Sb pb (z - r.count)) r.out.same
            ∙ stay Sb pb (z - r.count) (dress_world (ticks Sa pa k W) r.out.bs r.out.xss r.out.xs) ended;
        like = r.out.like;
      }

  pub runs_out : (input : List (List ℕ)) (k budget : ℕ) (W : World A S) (bs : List B) (xss : List (List (Part T))) (xs : List (Part T)) (m : Meaning A S) → Alike W bs xss xs
      → run_from Sa pa k W input budget ≡ Some m → Later (Out Sa Sb R Q) m (λ z. run_from Sb pb z (dress_world W bs xss xs) input budget)
  runs_out [] k budget W bs xss xs m like given =
      let U = ticks Sa pa k W in
      let t = turn_out k W bs xss xs like (gives_ended U.now U suspends m given) in
      let V = dress_world U t.bs t.xss t.xs in
      let l = turn_end (Out Sa Sb R Q) U.now U V suspends (λ z. suspends) m refl given (suspends_out (Out Sa Sb R Q) U V (record { bs = t.bs; xss = t.xss; xs = t.xs; same = refl; like = t.like })) in
      later_on (Out Sa Sb R Q) m t.count l (λ z within. ap (λ (Y : World B T). at_end Y.now Y suspends) (t.gives z within))
  runs_out (line ∷ more) k budget W bs xss xs m like given =
      let U = ticks Sa pa k W in
      let goes = λ (X : World A S). run_from Sa pa k (handed_line Sa pa X line budget) more budget in
      let on = λ (z : ℕ) (Y : World B T). run_from Sb pb z (handed_line Sb pb Y line budget) more budget in
      let t = turn_out k W bs xss xs like (gives_ended U.now U goes m given) in
      let V = dress_world U t.bs t.xss t.xs in
      let l = turn_end (Out Sa Sb R Q) U.now U V goes on m refl given
      (λ y e. runs_out more k budget (handed_line Sa pa U line budget) t.bs t.xss t.xs y (record { functions = t.like.functions; coroutines = t.like.coroutines; frames = t.like.frames }) e) in
      later_on (Out Sa Sb R Q) m t.count l (λ z within. ap (λ (Y : World B T). at_end Y.now Y (on z)) (t.gives z within))

  -- worlds in which both are suspended go on alike, with whatever budget
  pub onward_out : (input : List (List ℕ)) (k budget : ℕ) (U : World A S) (V : World B T) (m : Meaning A S) → Out Sa Sb R Q U V → onward Sa pa k U input budget ≡ Some m
      → Later (Out Sa Sb R Q) m (λ z. onward Sb pb z V input budget)
  onward_out [] k budget U V m out given = suspends_out (Out Sa Sb R Q) U V out m given
  onward_out (line ∷ more) k budget U V m out given =
      subst (λ (Y : World B T). Later (Out Sa Sb R Q) m (λ z. run_from Sb pb z (handed_line Sb pb Y line budget) more budget)) (sym out.same)
      (runs_out more k budget (handed_line Sa pa U line budget) out.bs out.xss out.xs m (record { functions = out.like.functions; coroutines = out.like.coroutines; frames = out.like.frames }) given)
