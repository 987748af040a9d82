-- What stays while the instructions of a routine are rewritten: its bytes and the table of facts.
pub use Rattle.fold.specs.Tables.{Ground, Coded}
