-- Runs by their turns: what a run on lines has done so far, and how it goes on.
use Rattle.std.proofs.Common.{◌≡◌, ℕ, ◌+◌, true, List, [], ◌∷◌, ◌++◌, Option, Some, None, refl, sym, ◌∙◌, ap, arith, append_assoc, append-nil, subst}
use Rattle.std.specs.Prelude.{option_map}
use Rattle.list_laws.proofs.Items.{some_same}
use Rattle.machine_core.specs.World.{World}
use Rattle.machine_core.specs.Moves.{Ending, main_yielded, main_returned, main_failed, spent, Row, ends}
use Rattle.machine_runs.specs.Opening.{handed_line}
use Rattle.machine_runs.specs.Runs.{turn, is_end, has_ended, Close, has_returned, has_failed, has_spent, is_suspended, Run, behind, suspends, turn_text, closes, at_end, run_from, CodeRun}
use Rattle.machine_runs.proofs.Runs.{turn_within, given_within}
use Rattle.lua_feed.specs.declared.feeding.Close.{Close as Kept}
use Rattle.lua_feed.specs.declared.feeding.Close.TheVariants.{Returned, Failed, Spent}
use Rattle.lua_feed.specs.Closes.{close_of, closing}

-- what a run prints first
pub record PrintsFirst (text : List ℕ) (r : Run) : Type 0 where
  pub rest : List ℕ
  pub is : r.printed ≡ text ++ rest

behind_twice : (text more : List ℕ) (y : Run) → behind text (behind more y) ≡ behind (text ++ more) y
behind_twice text more y = ap (λ printed. record { printed = printed; close = y.close; last = y.last }) (sym (append_assoc text more y.printed))

module _ (rows : ℕ → Row) (budget : ℕ) where
  -- a run is what was printed and then a run from here
  pub record GoesOn (now : World) (more : List (List ℕ)) (printed : List ℕ) (r : Run) : Type 0 where
    pub rest : Run
    pub runs : CodeRun rows now more budget rest
    pub is : behind printed rest ≡ r

  -- from one world a run begins with these lines and bytes, and goes on from another
  pub record Comes (start now : World) (used : List (List ℕ)) (printed : List ℕ) : Type 0 where
    pub goes : (more : List (List ℕ)) (r : Run) → CodeRun rows now more budget r → CodeRun rows start (used ++ more) budget (behind printed r)
    pub back : (more : List (List ℕ)) (r : Run) → CodeRun rows start (used ++ more) budget r → GoesOn now more printed r

  pub comes_none : (start : World) → Comes start start [] []
  comes_none start = record { goes = λ more r x. x; back = λ more r x. record { rest = r; runs = x; is = refl } }

  -- a turn that yields, and a line that is handed over
  one_goes : (now V : World) (count : ℕ) (line : List ℕ) → turn rows count now budget ≡ ends main_yielded V → (more : List (List ℕ)) (r : Run)
      → CodeRun rows (handed_line V line) more budget r → CodeRun rows now (line ∷ more) budget (behind (turn_text main_yielded V) r)
  one_goes now V count line e more r x =
      let n = count + x.count in
      let ended : has_ended (turn rows count now budget) ≡ true = ap has_ended e in
      let same : turn rows n now budget ≡ ends main_yielded V = turn_within rows count n now budget ended (omega arith) ∙ e in
      record {
        count = n;
        gives = ap (λ o. at_end o (λ V. run_from rows n (handed_line V line) more budget)) same
            ∙ ap (option_map (behind (turn_text main_yielded V))) (given_within rows x.count n (handed_line V line) more budget r x.gives (omega arith));
      }

  map_some : (text : List ℕ) (o : Option Run) (r : Run) → option_map (behind text) o ≡ Some r → (s : Run) × (o ≡ Some s) × (behind text s ≡ r)
  map_some text None r e = absurd (cc)
  map_some text (Some s) r e = (s, refl, some_same (behind text s) r e)

  one_back : (now V : World) (count : ℕ) (line : List ℕ) → turn rows count now budget ≡ ends main_yielded V → (more : List (List ℕ)) (r : Run)
      → CodeRun rows now (line ∷ more) budget r → GoesOn (handed_line V line) more (turn_text main_yielded V) r
  one_back now V count line e more r x =
      let n = count + x.count in
      let ended : has_ended (turn rows count now budget) ≡ true = ap has_ended e in
      let same : turn rows n now budget ≡ ends main_yielded V = turn_within rows count n now budget ended (omega arith) ∙ e in
      let given : run_from rows n now (line ∷ more) budget ≡ Some r = given_within rows x.count n now (line ∷ more) budget r x.gives (omega arith) in
      let mapped : option_map (behind (turn_text main_yielded V)) (run_from rows n (handed_line V line) more budget) ≡ Some r =
      sym (ap (λ o. at_end o (λ V. run_from rows n (handed_line V line) more budget)) same) ∙ given in
      let k = map_some (turn_text main_yielded V) (run_from rows n (handed_line V line) more budget) r mapped in
      record { rest = k.0; runs = record { count = n; gives = k.1 }; is = k.2 }

  pub comes_on : (start now V : World) (used : List (List ℕ)) (printed : List ℕ) (count : ℕ) (line : List ℕ) → Comes start now used printed → turn rows count now budget ≡ ends main_yielded V
      → Comes start (handed_line V line) (used ++ line ∷ []) (printed ++ turn_text main_yielded V)
  comes_on start now V used printed count line c e =
      record {
        goes = λ more r x.
            let y : CodeRun rows start (used ++ line ∷ more) budget (behind printed (behind (turn_text main_yielded V) r)) = c.goes (line ∷ more) (behind (turn_text main_yielded V) r) (one_goes now V count line e more r x) in
            let z : CodeRun rows start (used ++ line ∷ more) budget (behind (printed ++ turn_text main_yielded V) r) = subst (λ s. CodeRun rows start (used ++ line ∷ more) budget s) (behind_twice printed (turn_text main_yielded V) r) y in
            subst (λ ls. CodeRun rows start ls budget (behind (printed ++ turn_text main_yielded V) r)) (sym (append_assoc used (line ∷ []) more)) z;
        back = λ more r x.
            let x' : CodeRun rows start (used ++ line ∷ more) budget r = subst (λ ls. CodeRun rows start ls budget r) (append_assoc used (line ∷ []) more) x in
            let g : GoesOn now (line ∷ more) printed r = c.back (line ∷ more) r x' in
            let h : GoesOn (handed_line V line) more (turn_text main_yielded V) g.rest = one_back now V count line e more g.rest g.runs in
            record { rest = h.rest; runs = h.runs; is = sym (behind_twice printed (turn_text main_yielded V) h.rest) ∙ ap (behind printed) h.is ∙ g.is };
      }

  -- the last turn: lines past the last one that is used do not matter

  at_last : (e : Ending) (k : Kept) (V : World) (goes : World → Option Run) → closing e ≡ Some k → at_end (ends e V) goes ≡ Some (closes e (close_of k) V)
  at_last main_returned k V goes h = ap (λ (k : Kept). Some (closes main_returned (close_of k) V)) (some_same Returned k h)
  at_last main_failed k V goes h = ap (λ (k : Kept). Some (closes main_failed (close_of k) V)) (some_same Failed k h)
  at_last spent k V goes h = ap (λ (k : Kept). Some (closes spent (close_of k) V)) (some_same Spent k h)
  at_last main_yielded k V goes h = absurd (cc)
  at_last _ k V goes h = absurd (cc)

  pub ends_here : (now V : World) (count : ℕ) (e : Ending) (k : Kept) (more : List (List ℕ)) → closing e ≡ Some k → turn rows count now budget ≡ ends e V
      → CodeRun rows now more budget (closes e (close_of k) V)
  ends_here now V count e k [] h t = record { count = count; gives = ap (λ o. at_end o suspends) t ∙ at_last e k V suspends h }
  ends_here now V count e k (line ∷ more) h t =
      let goes : World → Option Run = λ V. run_from rows count (handed_line V line) more budget in
      record { count = count; gives = ap (λ o. at_end o goes) t ∙ at_last e k V goes h }

  pub suspends_here : (now V : World) (count : ℕ) → turn rows count now budget ≡ ends main_yielded V
      → CodeRun rows now [] budget (behind (turn_text main_yielded V) (record { printed = []; close = is_suspended; last = V }))
  suspends_here now V count t = record { count = count; gives = ap (λ o. at_end o suspends) t }

  -- a turn that has ended prints its text first, on whatever lines

  closed_prints : (e : Ending) (c : Close) (V : World) (r : Run) → Some (closes e c V) ≡ Some r → PrintsFirst (turn_text e V) r
  closed_prints e c V r g = record { rest = []; is = sym (ap (λ (r : Run). r.printed) (some_same (closes e c V) r g)) ∙ sym (append-nil (turn_text e V)) }

  end_prints : (e : Ending) (V : World) (goes : World → Option Run) (r : Run) → is_end e ≡ true → at_end (ends e V) goes ≡ Some r → PrintsFirst (turn_text e V) r
  end_prints main_yielded V goes r h g =
      let k = map_some (turn_text main_yielded V) (goes V) r g in
      record { rest = k.0.printed; is = sym (ap (λ (r : Run). r.printed) k.2) }
  end_prints main_returned V goes r h g = closed_prints main_returned has_returned V r g
  end_prints main_failed V goes r h g = closed_prints main_failed has_failed V r g
  end_prints spent V goes r h g = closed_prints spent has_spent V r g
  end_prints _ V goes r h g = absurd (cc)

  prints_by : (now V : World) (n : ℕ) (e : Ending) (more : List (List ℕ)) (r : Run) → is_end e ≡ true → turn rows n now budget ≡ ends e V → run_from rows n now more budget ≡ Some r → PrintsFirst (turn_text e V) r
  prints_by now V n e [] r h same g = end_prints e V suspends r h (sym (ap (λ o. at_end o suspends) same) ∙ g)
  prints_by now V n e (line ∷ more) r h same g =
      let goes : World → Option Run = λ V. run_from rows n (handed_line V line) more budget in
      end_prints e V goes r h (sym (ap (λ o. at_end o goes) same) ∙ g)

  pub turn_prints : (now V : World) (count : ℕ) (e : Ending) (more : List (List ℕ)) (r : Run) → is_end e ≡ true → turn rows count now budget ≡ ends e V → CodeRun rows now more budget r → PrintsFirst (turn_text e V) r
  turn_prints now V count e more r h t x =
      let n = count + x.count in
      let same : turn rows n now budget ≡ ends e V = turn_within rows count n now budget (ap has_ended t ∙ h) (omega arith) ∙ t in
      prints_by now V n e more r h same (given_within rows x.count n now more budget r x.gives (omega arith))
