-- Code that means a tree runs as the tree does by the letter of the manual.
use Rattle.std.proofs.Common.{ℕ, Bool, List, ◌∙◌, arith}
use Rattle.tree_core.specs.Tree.{Body}
use Rattle.tree_activation.specs.Work.{when_declared, State}
use Rattle.code_core.specs.Prototype.{Prototype}
use Rattle.machine_core.specs.Talk.{State as CodeState}
use Rattle.load_rows.specs.Loading.{Builds}
use Rattle.lua_meaning.specs.World.{World}
use Rattle.lua_meaning.specs.Meaning.{Outcome, has_returned, has_failed, has_spent, is_suspended, is_broken, Meaning, IsMeaning, IsOnward}
use Rattle.lua_meaning.specs.Opening.{primitives}
use Rattle.lua_meaning.specs.TreeMeaning.{trees}
use Rattle.code_means.specs.Means.{Means}
use Rattle.code_means.specs.Runs.{codes_run, EndAlike, RunAlike}
use Rattle.runs_alike.specs.Alike.{BuildsAlike, IsMeantBy, script, CodeEnds, WorldsAlike}
use Rattle.runs_alike.proofs.Endings.{WaitAlike}
use Rattle.runs_alike.proofs.Sides.{TreeWaits, TreeGoesOn, run_flip, code_ends, tree_ends, tree_goes_on}
use Rattle.cells_alike.specs.Alike.{IsReady, LetterEnds}
use Rattle.cells_alike.proofs.Joint.{one, two}
use Rattle.cells_alike.proofs.Runs.{AreWaiting, second_onward}
use Rattle.cells_alike.proofs.Begun.{second_ends, first_ends}

end_then : {A B C S T U : Type 0} → (x : Outcome A S) (y : Outcome B T) (z : Outcome C U) → EndAlike x y → EndAlike y z → EndAlike x z
end_then has_returned has_returned has_returned a b = tt
end_then has_returned has_returned z a b = absurd b
end_then has_failed has_failed has_failed a b = tt
end_then has_failed has_failed z a b = absurd b
end_then has_spent has_spent has_spent a b = tt
end_then has_spent has_spent z a b = absurd b
end_then (is_suspended W) (is_suspended V) (is_suspended U) a b = tt
end_then (is_suspended W) (is_suspended V) z a b = absurd b
end_then is_broken is_broken is_broken a b = tt
end_then is_broken is_broken z a b = absurd b
end_then x y z a b = absurd a

run_then : {A B C S T U : Type 0} → (x : Meaning A S) (y : Meaning B T) (z : Meaning C U) → RunAlike x y → RunAlike y z → RunAlike x z
run_then x y z a b = record { printed = a.printed ∙ b.printed; outcome = end_then x.outcome y.outcome z.outcome a.outcome b.outcome }

-- a world by the letter in which a run is suspended as one is in a world of codes
pub record LetterWaits (V : World Prototype CodeState) (W : World Body State) : Type 0 where
  pub between : World Body State
  pub tree : TreeWaits V between
  pub letter : AreWaiting two one between W

wait_then : (x : Outcome Prototype CodeState) (y z : Outcome Body State) → EndAlike y x → WaitAlike TreeWaits x y → WaitAlike (AreWaiting two one) y z → WaitAlike LetterWaits x z
wait_then (is_suspended V) (is_suspended U) (is_suspended W) alike tree letter = record { between = U; tree = tree; letter = letter }
wait_then (is_suspended V) y (is_suspended W) alike tree letter = absurd alike
wait_then x y z alike tree letter = tt

-- what the code means further on, the tree means by the letter
pub letter_goes_on : (trees_built : Builds Body) (code_built : Builds Prototype) → BuildsAlike IsMeantBy trees_built code_built → (V : World Prototype CodeState) (W : World Body State) → LetterWaits V W
    → (input : List (List ℕ)) (budget : ℕ) (m : Meaning Prototype CodeState) → IsOnward codes_run (primitives code_built) V input budget m → TreeGoesOn when_declared trees_built W input budget m
letter_goes_on trees_built code_built builds V W waits input budget m given =
    let t = tree_goes_on trees_built code_built builds V waits.between waits.tree input budget m given in
    let l = second_onward trees_built budget t.goes.steps input waits.between W waits.letter t.meaning t.goes.gives in
    record { meaning = l.other; goes = record { steps = l.count; gives = l.gives l.count (omega arith) }; alike = run_then l.other t.meaning m (run_flip t.meaning l.other l.alike) t.alike }

module _ (trees_built : Builds Body) (code_built : Builds Prototype) (builds : BuildsAlike IsMeantBy trees_built code_built)
    (W : World Body State) (V : World Prototype CodeState) (ready : IsReady W) (worlds : WorldsAlike IsMeantBy W V) (main : Body) (code : Prototype) (name : List ℕ) (lines : Bool) (means : Means lines code main)
    (input : List (List ℕ)) (budget : ℕ) where
  pub code_after : (m : Meaning Body State) → IsMeaning (trees when_declared) (primitives trees_built) W (script main name lines) input budget m → CodeEnds code_built V (script code name lines) input budget m
  code_after m is =
      let e = second_ends trees_built W ready (script main name lines) budget input m is in
      let c = code_ends trees_built code_built builds W V worlds main code name lines means input budget e.meaning e.is_meant in
      record { meaning = c.meaning; is_meant = c.is_meant; alike = run_then m e.meaning c.meaning e.alike c.alike }

  -- and where both are suspended their worlds wait alike
  pub record LetterAfter (m : Meaning Prototype CodeState) : Type 0 where
    pub ends : LetterEnds trees_built W (script main name lines) input budget m
    pub waits : WaitAlike LetterWaits m.outcome ends.meaning.outcome

  pub letter_after : (m : Meaning Prototype CodeState) → IsMeaning codes_run (primitives code_built) V (script code name lines) input budget m → LetterAfter m
  letter_after m is =
      let tree = tree_ends trees_built code_built builds W V worlds main code name lines means input budget m is in
      let t = tree.ends in
      let first = first_ends trees_built W ready (script main name lines) budget input t.meaning t.is_meant in
      let e = first.ends in
      record {
        ends = record { meaning = e.meaning; is_meant = e.is_meant; alike = run_then e.meaning t.meaning m (run_flip t.meaning e.meaning e.alike) t.alike };
        waits = wait_then m.outcome t.meaning.outcome e.meaning.outcome t.alike.outcome tree.waits first.waits;
      }
