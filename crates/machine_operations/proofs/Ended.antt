-- Operations that end at once.
use Rattle.std.proofs.Common.{◌≡◌, ℕ, List, Option, ap, sym, subst, ◌∙◌}
use Rattle.std.specs.Prelude.{drop}
use Rattle.int_core.specs.Value.{Value}
use Rattle.machine_core.specs.World.{Function}
use Rattle.machine_core.specs.FrameRows.{expand, raises}
use Rattle.machine_core.specs.Moves.{blamed, Ending, go, only}
use Rattle.table_core.specs.declared.value.Value.{Value as Kept}
use Rattle.lua_heap.specs.declared.world.World.{World as Memory}
use Rattle.lua_heap.specs.Errors.{AddsTexts, HasText}
use Rattle.lua_heap.specs.Reading.{value}
use Rattle.instruction_forms.specs.declared.form.After.{After}
use Rattle.instruction_forms.specs.Forms.{follows}
use Rattle.meta_ops.specs.declared.fault.Fault.{Fault}
use Rattle.meta_ops.specs.Outcome.{fault_text}
use Rattle.move_laws.specs.Memory.{IsSafe, IsSound, Leads}
use Rattle.machine_moves.specs.Code.{HasCode}
use Rattle.machine_errors.specs.Raising.{CanLeave, IsBlamed}
use Rattle.machine_errors.proofs.Texts.{leads_from, texts_read_same}
use Rattle.machine_calls.proofs.Blamed.{value_stays}
use Rattle.machine_operations.specs.Copying.{Copies}
use Rattle.machine_operations.specs.Following.{Follows, MayFollow}
use Rattle.machine_operations.specs.Operating.{EndsSo, FailsSo, MayEnd}

pub has_code : {W : Memory} → CanLeave W → HasCode W
has_code h = record { place = h.place; is = h.is; checked = h.checked }

-- the value goes on its way

module _ {old new : Memory} {pc : ℕ} {also : Option ℕ} {first : Kept} {after : After} {v : Kept} (c : Copies old new also first) (texts : new.strings ≡ old.strings) (w : CanLeave new) where
  pub may_follow : MayEnd old pc also first after v → MayFollow new pc after v
  may_follow h =
      let row = only h.slot (expand (follows h.place.function.code pc after)) in
      let s : IsSafe (expand (follows h.place.function.code pc after)) (drop h.slot h.env) new = record { never = (c.safe h.env h.x h.names.copied row h.safe).never } in
      record {
        place = w.place;
        is = w.is;
        env = drop h.slot h.env;
        named = h.names.found ∙ ap (λ texts. value texts v) (sym texts);
        safe = subst (λ (f : Function). IsSafe (expand (follows f.code pc after)) (drop h.slot h.env) new) (sym (c.function h.place w.place h.is w.is)) s;
      }

  pub ends_so : (last : Memory) → Follows new last pc after v → EndsSo old last pc also first after v go
  ends_so last f = record {
    leads = λ place is env x slot n.
        let l = f.leads w.place w.is (drop slot env) (n.found ∙ ap (λ texts. value texts v) (sym texts)) in
        let m = subst (λ (f : Function). Leads (expand (follows f.code pc after)) (drop slot env) new last go) (c.function place w.place is w.is) l in
        c.leads env x n.copied (only slot (expand (follows place.function.code pc after))) last go (record { is = m.is });
  }

-- the frame begins to be left

module _ {old texted copied : Memory} {also : Option ℕ} {first : Kept} {text : List ℕ} {items : List Kept} (s : IsSound old) (a : AddsTexts old texted) (c : Copies texted copied also first) (texts : copied.strings ≡ texted.strings)
    (b : IsBlamed old texted text items) where
  still_blamed : IsBlamed copied copied text items
  still_blamed = record {
    thrown = b.thrown;
    one = b.one;
    says = λ fuel.
        ap (λ texts. value texts b.thrown) texts
        ∙ b.says fuel
        ∙ sym (ap (λ V. blamed V text) ((texts_read_same s a).is fuel))
        ∙ sym (c.blames fuel text);
  }

  pub fails_so : (cause : Fault) (last : Memory) (ending : Ending) → HasText old.strings first → text ≡ fault_text old.strings cause
      → ((text : List ℕ) → IsBlamed copied copied text items → (env : List Value) → Leads (raises text) env copied last ending) → FailsSo old last also first cause ending
  fails_so cause last ending h t l = record {
    leads = λ env x n.
        let m = subst (λ text. Leads (raises text) env copied last ending) t (l text still_blamed env) in
        leads_from (texts_read_same s a) (c.leads env x (n ∙ sym (value_stays first a.strings h)) (raises (fault_text old.strings cause)) last ending m);
  }
