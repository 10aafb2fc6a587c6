-- A block of a monitor fits its method.
use Rattle.std.specs.Prelude.{◌≡◌, ◌≤◌, true, length}
use Rattle.lang_monitor.specs.declared.monitor.Block.{Block}
use Rattle.lang_monitor.specs.MonitorParts.{MonitorParts, Places, method_places, fits_block}

-- a block has at most so many fields, inputs and locals
pub record AreFewPlaces (places : Places) : Type 0 where
  pub fields : length places.fields ≤ 16
  pub inputs : length places.inputs ≤ 6
  pub locals : length places.locals ≤ 4

-- the block fits its method
pub record IsPlaced (monitor : MonitorParts) (block : Block) : Type 0 where
  pub few : AreFewPlaces (method_places monitor block.method)
  pub fits : fits_block (method_places monitor block.method) block ≡ true
