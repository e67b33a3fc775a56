-- The statements of a block, written one by one.
use Rattle.std.proofs.Common.{arith, ℕ, ◌+◌, ◌≡◌, Bool, List, [], ◌∷◌, ◌++◌, refl, sym, ap, ap₂, ◌∙◌, append_assoc, length, take, drop, cond, Option, Some, None}
use Rattle.std.proofs.lemmas.List.{map-append, append-nil}
use Rattle.tree_core.specs.Tree.{Stats, MoreStats, Stat, Empty, Label}
use Rattle.code_core.specs.declared.proto.Const.{Const}
use Rattle.code_of.specs.declared.leaving.Leaving.{Leaving}
use Rattle.code_of.specs.Coded.{Coded}
use Rattle.code_of.specs.Jumps.{Landing, Visible, Reach}
use Rattle.code_of.specs.Levels.{made_by_stat, made_in_stats, closing_after}
use Rattle.tree_terms.specs.Levels.{level_after}
use Rattle.code_of.specs.Sizes.{stat_size}
use Rattle.code_of.specs.Statements.{visible, passed_after, labels_ahead, stat_code, stats_code}
use Rattle.code_emitter.specs.declared.emitter.Step.{Step}
use Rattle.code_emitter.specs.Listing.{followed, step, steps}
use Rattle.code_emitter.proofs.Joining.{after, none_made}
use Rattle.code_stat.specs.declared.jumps.Jump.{Jump}
use Rattle.code_stat.specs.declared.writer.Writer.{Writer}
use Rattle.code_stat.specs.Drafts.{arrives, leads_to, first_of, among, landing_if, beyond, within, fill, Wrote, Underway, WroteStat}
use Rattle.code_stat.specs.Forms.{ahead_with, level_at}
use Rattle.code_of.proofs.Sizes.{stat_sized}
use Rattle.code_stat.proofs.Leading.{fill_both, fill_alike}
use Rattle.code_stat.proofs.Drafting.{seam, front_sized, written_sized, draft_sized, led_anew, behind_seam}
use Rattle.code_expr.proofs.TargetSeats.{nothing_listed}
use Rattle.code_expr.proofs.Kept.{no_further}

-- at a block's end no label is to come

none_among : (label : Option (List ℕ)) → among label [] ≡ None
none_among None = refl
none_among (Some name) = refl

at_end : (settled : Bool) (label : Option (List ℕ)) (x y : Option Landing) → cond settled x (first_of (among label []) y) ≡ cond settled x y
at_end settled label x y = ap (λ o. cond settled x (first_of o y)) (none_among label)

ends_alike : (reach : Reach) (j : Jump) → leads_to [] reach j ≡ arrives reach j
ends_alike reach j = at_end j.settled j.label (landing_if j.landing) (first_of (landing_if j.landing) (beyond j.label reach))

-- nothing is written yet, and nothing is to come

pub begins : (a : Writer) (ahead : List Visible) (made : ℕ) (all : Reach → List Coded) → Underway a a ahead made made all all
begins a ahead made all = record {
  draft = [];
  jumps = [];
  done = 0;
  done_is = omega arith;
  emitter_is = nothing_listed a.emitter ∙ sym (none_made a.emitter []);
  jumps_are = sym (append-nil a.jumps.items);
  back_is = refl;
  fills = λ reach front more h. refl;
}

pub finished : (a b : Writer) (made : ℕ) (all : Reach → List Coded) → Underway a b [] made 0 (λ reach. []) all → Wrote a b made all
finished a b made all u = record {
  draft = u.draft;
  jumps = u.jumps;
  emitter_is = u.emitter_is ∙ ap (followed a.emitter u.draft) (let h = u.done_is in omega (arith, h));
  jumps_are = u.jumps_are;
  back_is = u.back_is;
  fills = λ reach front more h. sym (fill_alike (leads_to [] reach) (arrives reach) u.jumps (front ++ (steps u.draft ++ more)) (ends_alike reach)) ∙ u.fills reach front more h;
}

-- a label is seen by what stands in front of it, and a statement that is a label has no code

module _ (k : List Const) (back : Leaving) where
  pub ahead_step :
      (s : Stat) (ss : Stats) (falls closing : Bool) (outer t j pc : ℕ)
      → labels_ahead k back (MoreStats s ss) falls closing outer t j pc
      ≡ ahead_with s pc (level_at ss falls outer t) (labels_ahead k back ss falls (closing_after s closing) outer (level_after s t) (j + made_by_stat s) (pc + stat_size k back s closing t j))
  ahead_step (Label line name) ss falls closing outer t j pc = ap₂ (λ m n. visible name.text pc (level_at ss falls outer t) ∷ labels_ahead k back ss falls closing outer t m n) (sym (no_further j)) (sym (no_further pc))
  ahead_step _ ss falls closing outer t j pc = refl

  pub same_reach :
      (s : Stat) (closing : Bool) (t j pc place level : ℕ) (ahead passed : List Visible) (reach : Reach)
      → stat_code k back s closing t j pc (within (ahead_with s place level ahead) passed reach) ≡ stat_code k back s closing t j pc (within ahead passed reach)
  same_reach (Empty line) closing t j pc place level ahead passed reach = refl
  same_reach _ closing t j pc place level ahead passed reach = refl

-- what hangs on the place behind a statement

pub moved :
    {X : Type 0} (g : List Const → (back : Leaving) → (made place : ℕ) → X) (b c : Writer) (code : List Coded) (m size : ℕ)
    → c.emitter ≡ followed b.emitter code m → c.back ≡ b.back → length code ≡ size
    → g c.emitter.constants c.back c.emitter.made (length c.emitter.steps) ≡ g b.emitter.constants b.back (b.emitter.made + m) (length b.emitter.steps + size)
moved g b c code m size e k h =
    ap (λ s. g s.constants c.back s.made (length c.emitter.steps)) e
    ∙ ap (λ n. g b.emitter.constants n (b.emitter.made + m) (length c.emitter.steps)) k
    ∙ ap (g b.emitter.constants b.back (b.emitter.made + m)) (written_sized b.emitter c.emitter code m e ∙ ap (λ l. length b.emitter.steps + l) h)

abbrev pub nowhere : Reach
nowhere = record { labels = []; exit = None }

-- one statement more. Its jumps are settled by the labels that were passed, and then all jumps of the block are led to it, where it is a label

pub next_stat :
    (a b q c : Writer) (settled : List Jump) (s : Stat) (ss : Stats) (falls closing : Bool) (outer level made : ℕ) (passed : List Visible) (all : Reach → List Coded)
    → Underway a b (labels_ahead b.emitter.constants b.back (MoreStats s ss) falls closing outer level b.emitter.made (length b.emitter.steps)) made (made_in_stats (MoreStats s ss))
    (λ reach. stats_code b.emitter.constants b.back (MoreStats s ss) falls closing outer level b.emitter.made (length b.emitter.steps) passed reach) all
    → WroteStat b q s closing level
    → take (length b.jumps.items) settled ≡ take (length b.jumps.items) q.jumps.items
    → ((ahead : List Visible) (reach : Reach) (xs : List Step) → fill (leads_to ahead reach) (drop (length b.jumps.items) settled) xs ≡ fill (arrives (within ahead passed reach)) (drop (length b.jumps.items) q.jumps.items) xs)
    → take (length a.jumps.items) c.jumps.items ≡ take (length a.jumps.items) settled
    → ((ahead : List Visible) (reach : Reach) (xs : List Step) → fill (leads_to ahead reach) (drop (length a.jumps.items) c.jumps.items) xs ≡ fill (leads_to (ahead_with s (length b.emitter.steps) (level_at ss falls outer level) ahead) reach) (drop (length a.jumps.items) settled) xs)
    → c.emitter ≡ q.emitter → c.back ≡ q.back
    → Underway a c (labels_ahead c.emitter.constants c.back ss falls (closing_after s closing) outer (level_after s level) c.emitter.made (length c.emitter.steps)) made (made_in_stats ss)
    (λ reach. stats_code c.emitter.constants c.back ss falls (closing_after s closing) outer (level_after s level) c.emitter.made (length c.emitter.steps) (passed_after s level (length b.emitter.steps) passed) reach) all
next_stat a b q c settled s ss falls closing outer level made passed all u w front1 leads1 front2 leads2 same back =
    let k = b.emitter.constants in
    let j = b.emitter.made in
    let pc = length b.emitter.steps in
    let m = made_by_stat s in
    let size = stat_size k b.back s closing level j in
    let end = level_at ss falls outer level in
    let closing' = closing_after s closing in
    let level' = level_after s level in
    let passed' = passed_after s level pc passed in
    let long : length w.draft ≡ size = sym (draft_sized b q m (λ reach. stat_code k b.back s closing level j pc reach) w nowhere) ∙ stat_sized k b.back s closing level j pc nowhere in
    let c_is : c.emitter ≡ followed b.emitter w.draft m = same ∙ w.emitter_is in
    let c_back : c.back ≡ b.back = back ∙ w.back_is in
    let ac : List Visible = labels_ahead c.emitter.constants c.back ss falls closing' outer level' c.emitter.made (length c.emitter.steps) in
    let ac_is : ac ≡ labels_ahead k b.back ss falls closing' outer level' (j + m) (pc + size) =
    moved (λ k back j pc. labels_ahead k back ss falls closing' outer level' j pc) b c w.draft m size c_is c_back long in
    let inside : settled ≡ b.jumps.items ++ drop (length b.jumps.items) settled = led_anew b.jumps.items q.jumps.items settled w.jumps w.jumps_are front1 in
    let whole : settled ≡ a.jumps.items ++ (u.jumps ++ drop (length b.jumps.items) settled) =
    inside ∙ ap (λ l. l ++ drop (length b.jumps.items) settled) u.jumps_are ∙ append_assoc a.jumps.items u.jumps (drop (length b.jumps.items) settled) in
    record {
      draft = u.draft ++ w.draft;
      jumps = drop (length a.jumps.items) c.jumps.items;
      done = u.done + m;
      done_is = (let h = u.done_is in omega (arith, h));
      emitter_is = c_is ∙ ap (λ x. followed x w.draft m) u.emitter_is ∙ after a.emitter u.draft u.done w.draft m;
      jumps_are = led_anew a.jumps.items settled c.jumps.items (u.jumps ++ drop (length b.jumps.items) settled) whole front2;
      back_is = c_back ∙ u.back_is;
      fills = λ reach start more h.
          let a1 = ahead_with s pc end ac in
          let rest : List Coded = stats_code c.emitter.constants c.back ss falls closing' outer level' c.emitter.made (length c.emitter.steps) passed' reach in
          let here : List Coded = stat_code k b.back s closing level j pc (within ac passed reach) in
          let joins : here ++ rest ≡ stats_code k b.back (MoreStats s ss) falls closing outer level j pc passed reach =
          ap (λ l. stat_code k b.back s closing level j pc (within l passed reach) ++ rest) ac_is
          ∙ ap (λ l. stat_code k b.back s closing level j pc (within (labels_ahead k b.back ss falls closing' outer level' (j + m) (pc + size)) passed reach) ++ l)
          (moved (λ k back j pc. stats_code k back ss falls closing' outer level' j pc passed' reach) b c w.draft m size c_is c_back long) in
          let sees : labels_ahead k b.back (MoreStats s ss) falls closing outer level j pc ≡ a1 = ahead_step k b.back s ss falls closing outer level j pc ∙ ap (ahead_with s pc end) (sym ac_is) in
          leads2 ac reach (start ++ (steps (u.draft ++ w.draft) ++ (steps rest ++ more)))
          ∙ ap (λ js. fill (leads_to a1 reach) js (start ++ (steps (u.draft ++ w.draft) ++ (steps rest ++ more)))) (behind_seam a.jumps.items settled (u.jumps ++ drop (length b.jumps.items) settled) whole)
          ∙ fill_both (leads_to a1 reach) u.jumps (drop (length b.jumps.items) settled) (start ++ (steps (u.draft ++ w.draft) ++ (steps rest ++ more)))
          ∙ ap (fill (leads_to a1 reach) u.jumps)
          (leads1 a1 reach (start ++ (steps (u.draft ++ w.draft) ++ (steps rest ++ more)))
          ∙ ap₂ (fill (arrives (within a1 passed reach))) (behind_seam b.jumps.items q.jumps.items w.jumps w.jumps_are) (seam start (steps rest ++ more) u.draft w.draft)
          ∙ w.fills (within a1 passed reach) (start ++ steps u.draft) (steps rest ++ more) (front_sized start u.draft (length a.emitter.steps) h ∙ sym (written_sized a.emitter b.emitter u.draft u.done u.emitter_is))
          ∙ ap (λ x. (start ++ steps u.draft) ++ (steps x ++ (steps rest ++ more))) (same_reach k b.back s closing level j pc pc end ac passed reach)
          ∙ append_assoc start (steps u.draft) (steps here ++ (steps rest ++ more))
          ∙ ap (λ l. start ++ (steps u.draft ++ l)) (sym (append_assoc (steps here) (steps rest) more) ∙ ap (λ l. l ++ more) (sym (map-append step here rest)) ∙ ap (λ x. steps x ++ more) joins))
          ∙ ap (λ l. fill (leads_to l reach) u.jumps (start ++ (steps u.draft ++ (steps (stats_code k b.back (MoreStats s ss) falls closing outer level j pc passed reach) ++ more)))) (sym sees)
          ∙ u.fills reach start more h;
    }
