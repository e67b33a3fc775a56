use Rattle.std.proofs.Common.{rules, ◌≡◌, ◌≤◌, ◌<◌, ◌-◌, ◌∙◌, ℕ, List, length, slice_index_or, ◌++◌, [], ◌∷◌, None, sym, ap}
use Rattle.std.proofs.lemmas.List.{get_or_default}
use Rattle.scope_core.specs.Scopes.{Frame}
use Rattle.scope_core.specs.Reaching.{up_name_at, source_in, captured_at}
use Rattle.scope_core.proofs.Captures.{capture_source}
use Rattle.scope_core.proofs.functions.Functions.+reach.Goals as goal

pub returns-clause-source : goal.returns-clause-source
returns-clause-source t c =
    let some' : 0 < c.args.count = search rules in
    let fits : c.args.count ≤ length c.reach.new.self.scopes.items = search rules in
    let index : c.args.count - 1 < length c.args.self.now.scopes.items = search rules in
    let here : slice_index_or c.args.self.now.scopes.items (c.args.count - 1) c.index_mut.result.now ≡ c.index.result.now =
    get_or_default c.args.self.now.scopes.items (c.args.count - 1) c.index_mut.result.now c.index.result.now index ∙ sym c.index.ensures in
    let absent : c.source_of.result ≡ None = search rules in
    let none : source_in c.args.name.now (slice_index_or c.args.self.now.scopes.items (c.args.count - 1) c.index_mut.result.now) ≡ None =
    ap (source_in c.args.name.now) here ∙ sym c.source_of.ensures ∙ absent in
    let read : c.index_mut.result.now ≡ slice_index_or c.reach.new.self.scopes.items (c.args.count - 1) c.index_mut.result.now = search rules in
    let text : c.of-text.result ≡ c.args.name.now = search rules in
    let v : c.capture.new.self.variables ≡ (slice_index_or c.reach.new.self.scopes.items (c.args.count - 1) c.index_mut.result.now).variables =
    c.capture.ensures.variables ∙ ap (λ (f : Frame). f.variables) read in
    let u : c.capture.new.self.upvalues ≡ (slice_index_or c.reach.new.self.scopes.items (c.args.count - 1) c.index_mut.result.now).upvalues ++ up_name_at c.args.name.now c.in_ok-outer.outer ∷ [] =
    c.in_ok-source.ensures.captured.0 ∙ ap (λ (f : Frame). f.upvalues ++ up_name_at c.of-text.result c.in_ok-outer.outer ∷ []) read ∙ ap (λ (name : List ℕ). (slice_index_or c.reach.new.self.scopes.items (c.args.count - 1) c.index_mut.result.now).upvalues ++ up_name_at name c.in_ok-outer.outer ∷ []) text in
    let last : captured_at (length (slice_index_or c.reach.new.self.scopes.items (c.args.count - 1) c.index_mut.result.now).upvalues) ≡ c.in_ok-source.source =
    ap (λ (f : Frame). captured_at (length f.upvalues)) (sym read) ∙ sym c.in_ok-source.ensures.captured.1 in
    capture_source c.args.count c.args.self.now.scopes.items c.reach.new.self.scopes.items c.index_mut.result.now c.capture.new.self c.args.name.now c.in_ok-outer.outer some' fits c.reach.ensures.inner none v u
    ∙ ap (up_name_at c.args.name.now) last
