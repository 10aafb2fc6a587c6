use Rattle.std.proofs.Common.{◌<◌, ℕ, List, length, ap, map, arith}
use Rattle.std.proofs.lemmas.List.{length-map}
use Rattle.lang_base.specs.Limits.{CLIENTS}
use Rattle.machine_explicit.specs.inner.Rings.{line_of}
use Rattle.machine_explicit.proofs.Rounds.{ring_joined, line_in}
use Rattle.machine_explicit.proofs.rings.Rings.push.Goals as goal

pub returns : goal.returns
returns c =
    let i = c.self.inside in
    let within : c.args.condition < length i.rings.items = omega (arith, c.requires.within, ap (λ (lines : List (List ℕ)). length lines) c.self.view_is, length-map i.rings.items line_in) in
    let short : length (line_of (map line_in i.rings.items) c.args.condition) < CLIENTS = omega (arith, c.requires.room, ap (λ (lines : List (List ℕ)). length (line_of lines c.args.condition)) c.self.view_is) in
    rw (← c.self.view_is) (ring_joined i.rings.items c.args.condition c.args.client c.index_mut.result.now c.push_back.new.self c.self.invariant within c.index_mut.ensures.value short c.push_back.ensures.items)
