use Rattle.std.proofs.Common.{rules, ◌≡◌, Some}
use Rattle.std.specs.Prelude.{slice_get, IfOk, OnOk}
use Rattle.lua_heap.specs.Strings.{interned}
use Rattle.lua_heap.proofs.Finding.{contents, interned_so, short_put, stored_so}
use Rattle.lua_heap.proofs.strings.Strings.inserted.Goals as goal

pub invariant_of-self : goal.invariant_of-self
invariant_of-self c =
    let t : c.in_ok-content.content.items ≡ c.args.bytes.now = search rules in
    short_put c.args.bytes.now c.self.inside.contents.keys c.insert_full.new.self.keys c.in_ok-content.content t c.insert_full.result c.insert_full.ensures.keys c.insert_full.ensures.err c.self.invariant c.requires

pub returns-clause-named : goal.returns-clause-named
returns-clause-named c =
    let t : c.in_ok-content.content.items ≡ c.args.bytes.now = search rules in
    let q : IfOk c.insert_full.result (λ told. slice_get (contents c.insert_full.new.self.keys) told.0 ≡ Some c.args.bytes.now) =
    stored_so c.args.bytes.now c.self.inside.contents.keys c.insert_full.new.self.keys c.in_ok-content.content t c.insert_full.result c.insert_full.ensures.stored in
    search rules

pub returns-clause-added : goal.returns-clause-added
returns-clause-added c =
    let t : c.in_ok-content.content.items ≡ c.args.bytes.now = search rules in
    let q : OnOk c.insert_full.result (contents c.insert_full.new.self.keys ≡ interned (contents c.self.inside.contents.keys) c.args.bytes.now) =
    interned_so c.args.bytes.now c.self.inside.contents.keys c.insert_full.new.self.keys c.in_ok-content.content t c.insert_full.result c.insert_full.ensures.keys in
    search rules
