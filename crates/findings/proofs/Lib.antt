-- Laws of findings.
pub mod Found  -- the findings made from the tables are those of a judge
