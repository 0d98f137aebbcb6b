-- What callers see of a seat of a pool's table. Source: this project's own.
use Rattle.std.specs.Prelude.{◌≡◌, ◌<◌, [], length}
use Rattle.atomic_table.specs.Seated.{TableId}
use Rattle.atomic_table.specs.declared.shared.Seat.{Seat}
use Rattle.pool_rule.specs.declared.geometry.Geometry.{Geometry}
use Rattle.pool_rule.specs.declared.view.View.{View}
use Rattle.pool_rule.specs.Layout.{headers_of, places_of}

-- a seat of a pool's table
abbrev pub TableSeat : Type 0
TableSeat = Seat (Unit {0}) View

-- what the seat knows and has
abbrev pub view : TableSeat → View
view seat = seat.me.0

-- the view of a seat that isn't spent: it has numbers, and a place for each header and each minimum block
pub record IsLive (g : Geometry) (v : View) : Type 0 where
  pub numbers : 0 < length v.numbers
  pub geometry : v.geometry ≡ g
  pub marks : length v.marks ≡ headers_of g
  pub granted : length v.granted ≡ places_of g

-- the seat is of that table of those sizes, isn't spent and holds no slot
pub record IsSeatAt (table : TableId) (g : Geometry) (seat : TableSeat) : Type 0 where
  pub table_is : seat.table_id ≡ table
  pub no_slot : seat.me.1 ≡ []
  pub live : IsLive g (view seat)

-- the same seat, still of the table
pub record IsStill (table : TableId) (g : Geometry) (old new : TableSeat) : Type 0 where
  pub seat : IsSeatAt table g new
  pub id_is : new.id ≡ old.id

-- the seat is of the same table and has the same slots as before
pub record IsLeft (old new : TableSeat) : Type 0 where
  pub table_is : new.table_id ≡ old.table_id
  pub id_is : new.id ≡ old.id
  pub slots : new.me.1 ≡ old.me.1
