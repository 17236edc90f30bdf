-- What the definitions say, and that reading accepts exactly the bytes of records.
pub mod Meaning
pub mod RoundTrip
