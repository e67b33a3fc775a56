use Rattle.std.proofs.Common.{rules, ◌≡◌, ◌∙◌, ◌<◌, ◌++◌, ℕ, List, Some, length, map, take, subst}
use Rattle.std.specs.Prelude.{slice_get}
use Rattle.graph_core.specs.Permanents.{permanents, value_of}
use Rattle.session_images.specs.Permanents.{by_keys}
use Rattle.lua_saving.proofs.Keys.{added_more, key_at, next_keys, length_take}
use Rattle.lua_saving.proofs.permanents.add_all.Goals as goal

pub keys-preserved : goal.keys-preserved
keys-preserved c =
    let n : ℕ = c.keys.number in
    let keys = c.args.keys.now in
    let within : n < length keys = search rules in
    let key : List ℕ = c.in_ok-key.key.items in
    let copied : key ≡ c.as_bytes.result.now = search rules in
    let found : slice_get (map (λ k. k.now) keys) n ≡ Some key = key_at keys n key within (copied ∙ c.as_bytes.ensures.value) in
    subst (λ ks. permanents c.add.new.self ≡ permanents c.args.all.now ++ by_keys (value_of c.args.sort) 0 ks) (next_keys (map (λ k. k.now) keys) n key found)
    (added_more c.args.sort (permanents c.args.all.now) (permanents c.keys.all) (permanents c.add.new.self) (take n (map (λ k. k.now) keys)) key n c.requires (length_take keys n within) c.keys.invariant c.in_ok-add.ensures.ok)
