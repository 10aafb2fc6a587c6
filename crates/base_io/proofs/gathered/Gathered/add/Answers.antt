use Rattle.std.proofs.lemmas.Slice.{overwrites}
use Rattle.std.proofs.Common.{rules, ◌≡◌, ◌≤◌, ◌++◌, ◌+◌, ◌-◌, ℕ, List, length, take, arith}
use borrow.Rule.Slice.PartMut.{put_mid}
use Rattle.base_io.proofs.HandedBytes.{gathered_more}
use Rattle.base_io.proofs.gathered.Gathered.add.Goals as goal

pub returns-clause-taken : goal.returns-clause-taken
returns-clause-taken c =
    let filled : ℕ = c.args.self.now.filled in
    let end : ℕ = filled + length c.args.bytes.now in
    let bytes : List ℕ = put_mid filled (end - filled) c.args.self.now.bytes c.copy_from_slice.new.self in
    let taken : take end bytes ≡ take filled c.args.self.now.bytes ++ c.args.bytes.now = search (rules, overwrites) in
    let within : filled ≤ length c.args.self.now.bytes = search rules in
    gathered_more c.args.self.now.bytes bytes c.args.bytes.now c.args.self.now.handed filled end (search rules) (omega arith) within taken
