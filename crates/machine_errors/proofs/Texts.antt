-- Worlds that get a new string.
use Rattle.std.proofs.Common.{◌≡◌, List, ap, sym, subst, ◌∙◌}
use Rattle.int_core.specs.Value.{Value}
use Rattle.machine_core.specs.World.{World}
use Rattle.machine_core.specs.Moves.{Ending, Row, run}
use Rattle.machine_sound.specs.Sound.{Sound}
use Rattle.lua_heap.specs.declared.world.World.{World as Memory}
use Rattle.lua_heap.specs.Cells.{CellsAreListed}
use Rattle.lua_heap.specs.Errors.{AddsTexts}
use Rattle.move_laws.proofs.Order.{order_after}
use Rattle.move_laws.specs.Memory.{InOrder, IsSound, Leads, ReadsSame}

-- a sound world reads the same
pub texts_read_same : {old new : Memory} → IsSound old → AddsTexts old new → ReadsSame old new
texts_read_same {old} {new} s a = record { is = λ fuel. ap (λ (W : World). record W { fuel = fuel }) (a.plain s.primitives 0 s.sound) }

pub texts_in_order : {old new : Memory} → InOrder old → AddsTexts old new → InOrder new
texts_in_order {old} {new} o a = record { codes = a.codes o.codes; listed = subst CellsAreListed (sym a.rest) o.listed }

pub texts_sound : {old new : Memory} → IsSound old → AddsTexts old new → IsSound new
texts_sound {old} {new} s a = record {
  primitives = s.primitives;
  sound = subst (Sound s.primitives) (sym ((texts_read_same s a).is 0)) s.sound;
  order = texts_in_order s.order a;
}

-- so a row leads on from there
pub leads_from : {old new last : Memory} {row : Row} {env : List Value} {ending : Ending} → ReadsSame old new → Leads row env new last ending → Leads row env old last ending
leads_from {row} {env} r l = record { is = λ fuel. ap (run row env) (sym (r.is fuel)) ∙ l.is fuel }

-- a world of which only stacks and what moves has changed
pub order_kept : {old new : Memory} → InOrder old → new ≡ record old { coros = new.coros; moving = new.moving } → CellsAreListed new → InOrder new
order_kept o e l = order_after o (ap (λ (W : Memory). W.strings) e) (ap (λ (W : Memory). W.codes) e) l

pub same_sound : {old new : Memory} → IsSound old → ReadsSame old new → InOrder new → IsSound new
same_sound s r o = record { primitives = s.primitives; sound = subst (Sound s.primitives) (sym (r.is 0)) s.sound; order = o }
