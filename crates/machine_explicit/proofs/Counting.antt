-- How many calls clients have, and how many blocks.
use Rattle.std.proofs.Common.{◌≡◌, ℕ, zero, suc, ◌+◌, ◌*◌, ◌<◌, ◌≤◌, List, [], ◌∷◌, ◌++◌, length, take, sum_by, get_or, Option, Some, None, refl, sym, ap, subst, ◌∙◌, arith}
use Rattle.std.specs.Prelude.{slice_get}
use Rattle.std.proofs.lemmas.Option.{slice_get_within, slice_get-get_or}
use Rattle.std.proofs.lemmas.List.Sums.{sum_by-cons}
use Rattle.lang_monitor.specs.declared.monitor.Method.{Method}
use Rattle.lang_monitor.specs.MonitorParts.{MonitorParts, IsMonitor, count_in}
use Rattle.machine_implicit.specs.declared.place.Place.{Place}
use Rattle.machine_implicit.specs.declared.script.Call.{Call}
use Rattle.machine_implicit.specs.declared.script.Client.{Client}
use Rattle.machine_implicit.specs.Places.{FitsPlaceAt}
use Rattle.machine_implicit.specs.Scripted.{AreClients, FitsCall, all_blocks, blocks_in, calls_of}
use Rattle.machine_implicit.proofs.Fitting.{at_index, block_small}

calls_within_sum : (clients : List Client) (client : ℕ) → length (calls_of clients client) ≤ sum_by (λ one. length one.calls) clients
calls_within_sum [] client = omega arith
calls_within_sum (one ∷ clients) zero = omega (arith, sum_by-cons (λ (one : Client). length one.calls) one clients)
calls_within_sum (one ∷ clients) (suc client) = omega (arith, sum_by-cons (λ (one : Client). length one.calls) one clients, calls_within_sum clients client)

pub call_number_small : (clients : List Client) (client index : ℕ) (call : Call) → AreClients clients → slice_get (calls_of clients client) index ≡ Some call → index < 16384
call_number_small clients client index call rule is =
    omega (arith, rule.few_calls, calls_within_sum clients client, slice_get_within (calls_of clients client) index call is)

pub small_block : (monitor : MonitorParts) (call : Call) (place : Place) → IsMonitor monitor → FitsCall monitor call → FitsPlaceAt monitor place (Some call) → place.block < 4
small_block monitor call place rule fit here =
    let method = at_index monitor.methods call.method fit.method in
    (block_small monitor call place method.0 rule method.1 here).1

pub method_at : (monitor : MonitorParts) (some : List Method) (number : ℕ) (d : Method) → some ≡ monitor.methods → number < length monitor.methods → slice_get monitor.methods number ≡ Some (get_or some number d)
method_at monitor some number d same within = slice_get-get_or monitor.methods number d within ∙ ap (λ (all : List Method). Some (get_or all number d)) (sym same)

-- ---- blocks

blocks_at_most : (monitor : MonitorParts) (call : Call) → IsMonitor monitor → blocks_in monitor call ≤ 4
blocks_at_most monitor call rule = by (slice_get monitor.methods call.method) refl
  where
    by : (found : Option Method) → slice_get monitor.methods call.method ≡ found → count_in found ≤ 4
    by None is = omega arith
    by (Some method) is = (rule.methods call.method method is).few

blocks_of_calls : (monitor : MonitorParts) (calls : List Call) → IsMonitor monitor → sum_by (blocks_in monitor) calls ≤ 4 * length calls
blocks_of_calls monitor [] rule = omega arith
blocks_of_calls monitor (call ∷ calls) rule = omega (arith, blocks_at_most monitor call rule, blocks_of_calls monitor calls rule, sum_by-cons (blocks_in monitor) call calls)

blocks_of_clients : (monitor : MonitorParts) (clients : List Client) → IsMonitor monitor → all_blocks monitor clients ≤ 4 * sum_by (λ client. length client.calls) clients
blocks_of_clients monitor [] rule = omega arith
blocks_of_clients monitor (client ∷ clients) rule =
    omega (
      arith,
      blocks_of_calls monitor client.calls rule,
      blocks_of_clients monitor clients rule,
      sum_by-cons (λ (one : Client). sum_by (blocks_in monitor) one.calls) client clients,
      sum_by-cons (λ (one : Client). length one.calls) client clients,
    )

pub blocks_few : (monitor : MonitorParts) (clients : List Client) → IsMonitor monitor → AreClients clients → all_blocks monitor clients ≤ 65536
blocks_few monitor clients rule few = omega (arith, blocks_of_clients monitor clients rule, few.few_calls)
