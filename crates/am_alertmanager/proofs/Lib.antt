pub mod Lacking
pub mod Mended
pub mod Begun
pub mod Sifted
