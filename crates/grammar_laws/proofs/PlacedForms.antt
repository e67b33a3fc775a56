-- Setting places keeps the forms.
use Rattle.std.proofs.Common.{List, [], ◌∷◌, arith}
use Rattle.tree_core.specs.Tree.{Block, Stat, Assign, CallStat, GenFor, Exp, Var, Index, Call, Method, Exps, EndExps, MoreExps}
use Rattle.scope_core.specs.Scopes.{Frame, declare_all, generic_hidden}
use Rattle.scope_core.specs.Places.{placed_exp, placed_exps, placed_stat, main_upvalues, placed}
use Rattle.grammar_laws.specs.Formed.{IsCall, IsNameOrIndex, AreTargets, stat_is_formed, all_formed, BlockIsFormed, BodyIsFormed}
use Rattle.grammar_laws.proofs.PlacedParts.{Stays, block_stays}
use Rattle.scope_laws.proofs.Views.{names_length}

call_stays : (fs : List Frame) (e : Exp) → IsCall e → IsCall (placed_exp fs e)
call_stays fs (Call line f es) h = tt
call_stays fs (Method line object name es) h = tt
call_stays fs _ h = absurd h

target_stays : (fs : List Frame) (e : Exp) → IsNameOrIndex e → IsNameOrIndex (placed_exp fs e)
target_stays fs (Var line name) h = tt
target_stays fs (Index line object key) h = tt
target_stays fs _ h = absurd h

targets_stay : (fs : List Frame) (es : Exps) → AreTargets es → AreTargets (placed_exps fs es)
targets_stay fs EndExps h = tt
targets_stay fs (MoreExps e es) h = (target_stays fs e h.0, targets_stay fs es h.1)

stat_stays : (p q : Type 0) (fs : List Frame) (s : Stat) → stat_is_formed s p → (p → q) → stat_is_formed (placed_stat fs s) q
stat_stays p q fs (Assign line targets es) h k = (targets_stay fs targets h.0, k h.1)
stat_stays p q fs (CallStat line e) h k = (call_stays fs e h.0, k h.1)
stat_stays p q fs (GenFor line names es block) h k =
    let some = h.0 in
    let same = names_length (declare_all fs generic_hidden) names in
    (omega (arith, some, same), k h.1)
stat_stays p q fs _ h k = k h

forms_stay : Stays all_formed
forms_stay = record {
  exp = λ p q fs e h k. k h;
  name = λ p q x h k. k h;
  stat = stat_stays;
  loop = λ p q fs b h k. k h;
  block = λ p q fs b h k. k h;
  body = λ q fs params vararg inner ups line h k. k h;
}

pub placed_formed : (block : Block) → BlockIsFormed block → BodyIsFormed (placed block)
placed_formed block h = block_stays all_formed forms_stay (record { variables = []; upvalues = main_upvalues } ∷ []) block h
