pub mod FirstContent
pub mod BatContent
pub mod AsteroidContent
pub mod RocksContent
pub mod TestRomContent
